use Rattle.std.proofs.Common.{◌≡◌, ◌<◌, nat_eq, Bool, true, false, ◌&&◌, refl, rules, arith, subst}
use Rattle.std.proofs.lemmas.Bool.Decides.{nat_tests}
use Rattle.std.proofs.lemmas.Bool.{eqb-true}
use Rattle.std.proofs.Math.Bridge.{le_prop}
use mathlib.Core.HLevel.{is_prop→PathP}
use Rattle.std.specs.declared.num.NonZeroU8.{NonZeroU8}
use Rattle.cax64_sink.specs.declared.TrapCode.{TrapCode}
use Rattle.cax64_sink.specs.declared.DeferredTarget.{DeferredTarget}
use Rattle.cax64_sink.specs.declared.Notice.{Notice}
use Rattle.cax64_sink.specs.declared.Notice.TheVariants.{Trap, Target}
use Rattle.cax64_sink.specs.contracts.DeferredTargetPartialEq.TheImpl as target
use Rattle.cax64_sink.specs.contracts.NoticePartialEq.TheImpl as notice

-- a number that isn't 0 is told by its value
same_number : (a b : NonZeroU8) → a.value ≡ b.value → a ≡ b
same_number a b e = λ i. record { value = e i; ok = is_prop→PathP (λ j. 0 < e j) (λ j. le_prop) a.ok b.ok i }

pub same_trap_code : (a b : TrapCode) → nat_eq a.0.value b.0.value ≡ true → a ≡ b
same_trap_code a b h = λ i. record { 0 = same_number a.0 b.0 (eqb-true a.0.value b.0.value h) i }

same_target : (a b : DeferredTarget) → (target.ghosts).eq a b ≡ true → a ≡ b
same_target a b h = search rules

target_equal : (a : DeferredTarget) → (target.ghosts).eq a a ≡ true
target_equal a = search rules

both : (a b : Bool) → (a && b) ≡ true → (a ≡ true) × (b ≡ true)
both true b h = (refl, h)
both false b h = cc

pub same_notice : (a b : Notice) → (notice.ghosts).eq a b ≡ true → a ≡ b
same_notice (Trap m c) (Trap n d) h =
    let k : (nat_eq m n ≡ true) × (nat_eq c.0.value d.0.value ≡ true) = both (nat_eq m n) (nat_eq c.0.value d.0.value) h in
    let place : m ≡ n = eqb-true m n k.0 in
    let code : c ≡ d = same_trap_code c d k.1 in
    cc
same_notice (Trap m c) (Target n u) h = cc
same_notice (Target m t) (Trap n d) h = cc
same_notice (Target m t) (Target n u) h =
    let k : (nat_eq m n ≡ true) × ((target.ghosts).eq t u ≡ true) = both (nat_eq m n) ((target.ghosts).eq t u) h in
    let place : m ≡ n = eqb-true m n k.0 in
    let to : t ≡ u = same_target t u k.1 in
    cc

notice_equal : (a : Notice) → (notice.ghosts).eq a a ≡ true
notice_equal (Trap m c) = grind (arith, nat_tests)
notice_equal (Target m t) = rw target_equal (grind (arith, nat_tests))

pub equal_notices : (a b : Notice) → a ≡ b → (notice.ghosts).eq a b ≡ true
equal_notices a b e = subst (λ (x : Notice). (notice.ghosts).eq a x ≡ true) e (notice_equal a)
