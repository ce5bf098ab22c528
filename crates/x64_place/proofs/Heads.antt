use Rattle.std.proofs.Common.{◌≡◌, ℕ, zero, suc, ◌%◌, ◌^◌, ◌<◌, ◌≤◌, sym, arith, Bool, true, false, List}
use Rattle.std.specs.Prelude.{◌||◌, nat_eq, nat_le, nat_lt}
use Rattle.std.specs.Cmp.Lexicographic.{pointwise, same_text}
use Rattle.std.proofs.lemmas.Bool.{and_parts}
use Rattle.std.proofs.lemmas.Bool.Decides.{nat_tests}
use Rattle.cax64_machine_code.specs.declared.line.Line.{Line}
use Rattle.cax64_table.specs.Numbers.{is_vex}
use Rattle.x64_place.specs.Head.{head_of}
use Rattle.x64_place.specs.Heads.{all_high, are_heads, entry_in, head_bits, held_bytes, held_word, holds_head}
use Rattle.cax64_encoder.proofs.TailTable.{by_eight}

-- The four numbers of a line hold its heads.

all_high_at : (f : ℕ → Bool) (n : ℕ) → all_high f ≡ true → n < 8 → f n ≡ true
all_high_at f n h l =
    let a = and_parts (f 0) _ h in
    let b = and_parts (f 1) _ a.1 in
    let c = and_parts (f 2) _ b.1 in
    let d = and_parts (f 3) _ c.1 in
    let e = and_parts (f 4) _ d.1 in
    let g = and_parts (f 5) _ e.1 in
    let i = and_parts (f 6) (f 7) g.1 in
    by_eight (λ n. f n ≡ true) a.0 b.0 c.0 d.0 e.0 g.0 i.0 i.1 n l

pub record Held (line : Line) (heads : List ℕ) (high special : ℕ) : Type 0 where
  pub few : entry_in heads high special % 256 ≤ 6
  pub below : held_word (entry_in heads high special) high < 256 ^ (entry_in heads high special % 256)
  pub bytes : held_bytes (entry_in heads high special) high ≡ head_of line (head_bits high special)

held_when : (line : Line) (heads : List ℕ) (high special : ℕ) → holds_head line heads high special ≡ true → Held line heads high special
held_when line heads high special h =
    let n = entry_in heads high special in
    let a = and_parts (nat_le (n % 256) 6) _ h in
    let b = and_parts (nat_lt (held_word n high) (256 ^ (n % 256))) (pointwise nat_eq (held_bytes n high) (head_of line (head_bits high special))) a.1 in
    let few : nat_le (n % 256) 6 ≡ true = a.0 in
    let below : nat_lt (held_word n high) (256 ^ (n % 256)) ≡ true = b.0 in
    record { few = grind (arith, nat_tests, few); below = grind (arith, nat_tests, below); bytes = same_text _ _ (sym b.1) }

no_vex : (a b : Bool) → (a || b) ≡ true → a ≡ false → b ≡ true
no_vex true b h e = cc
no_vex false b h e = h

by_two : (P : ℕ → Type 0) → P 0 → P 1 → (n : ℕ) → n < 2 → P n
by_two P a b zero l = a
by_two P a b (suc zero) l = b
by_two P a b (suc (suc n)) l = absurd (omega (arith, l))

pub held_head : (line : Line) (heads : List ℕ) (high special : ℕ) → are_heads line heads ≡ true → is_vex line.prefix ≡ false → high < 8 → special < 2 → Held line heads high special
unfolding are_heads
held_head line heads high special h none below small =
    let both = no_vex (is_vex line.prefix) _ h none in
    let parts = and_parts (all_high (λ high. holds_head line heads high 0)) (all_high (λ high. holds_head line heads high 1)) both in
    held_when line heads high special (by_two (λ s. holds_head line heads high s ≡ true) (all_high_at (λ high. holds_head line heads high 0) high parts.0 below) (all_high_at (λ high. holds_head line heads high 1) high parts.1 below) special small)
