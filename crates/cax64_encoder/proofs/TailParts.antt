use Rattle.std.proofs.Common.{◌≡◌, ℕ, ◌+◌, ◌*◌, ◌/◌, ◌%◌, ◌<◌, ◌≤◌, ℤ, true, false, arith, refl, ◌∙◌, ap, List, [], ◌∷◌, Some, None, length}
use Rattle.cax64_machine_code.specs.Len.{least_tail, tail_len}
use Rattle.cax64_machine_code.specs.Tail.{read_tail}
use Rattle.cax64_machine_code.specs.declared.reading.Place.{Place}
use Rattle.cax64_machine_code.specs.declared.reading.Place.TheVariants.{Reg, Mem}
use Rattle.cax64_machine_code.specs.declared.reading.RegView.TheVariants.{Low}
use Rattle.cax64_machine_code.proofs.Tails.{register_back}
use Rattle.cax64_sink.specs.Call.{Action, put}
use Rattle.cax64_sink.specs.Run.{all_bytes}
use Rattle.cax64_address.specs.Emitted.{TailOf}
use Rattle.cax64_address.specs.Memory.{index_named}
use Rattle.cax64_encoder.specs.Encodes.{TailPartOf}
use Rattle.cax64_encoder.specs.Numbered.{IsNumbered, plain, place_named, place_is_real}
use Rattle.cax64_encoder.specs.Place.{place_read}
use Rattle.cax64_encoder.specs.declared.numbered.NumberedPlace.{NumberedPlace}
use Rattle.cax64_encoder.proofs.Numbers.{register_named, address_read, address_tail}

one_byte : (x b n reg : ℕ) (place : Place) (u : List ℕ) → read_tail x b n u ≡ Some (record { reg = reg; place = place; rest = [] }) → 1 ≤ length u
unfolding read_tail
one_byte x b n reg place [] h = cc
one_byte x b n reg place (c ∷ u) h = omega arith

whole : (n : ℕ) → n % 8 + 8 * (n / 8) ≡ n
whole n = omega arith

-- a register in the place of the tail
pub register_tail : (reg number modrm : ℕ) → modrm ≡ 3 * 64 + reg % 8 * 8 + number % 8 → TailOf 0 (number / 8) 1 (reg % 8) (Reg (Low number)) (λ at. []) (put (modrm ∷ []) ∷ [])
register_tail reg number modrm e = record {
  tail = record {
    reads = λ rest.
        let hr : reg % 8 < 8 = omega arith in
        let hn : number % 8 < 8 = omega arith in
        rw e (register_back 0 (number / 8) 1 (reg % 8) (number % 8) rest hr hn ∙ ap (λ (k : ℕ). Some (record { reg = reg % 8; place = Reg (Low k); rest = rest })) (whole number));
  };
  shortest = record { least = λ u hb hu. one_byte 0 (number / 8) 1 (reg % 8) (Reg (Low number)) u hu };
  notices = λ at. refl;
  ends = omega arith;
  most = omega arith;
}

-- The tail of a place that is a register.
module _ (numbers : NumberedPlace) (e : IsNumbered numbers) (stands : numbers.stands ≡ true) (absent : numbers.relative ≡ None) (r : numbers.is_register ≡ true) where
  pub register_place_tail : (disp : ℤ) (at_end reg modrm : ℕ) → modrm ≡ 3 * 64 + reg % 8 * 8 + numbers.base % 8 → TailPartOf plain.enc disp at_end reg (place_named numbers) (put (modrm ∷ []) ∷ [])
  register_place_tail disp at_end reg modrm byte = rw (register_named numbers e stands absent r) (register_tail reg numbers.base modrm byte)

-- The tail of a base.
module _ (numbers : NumberedPlace) (e : IsNumbered numbers) (h : place_is_real numbers ≡ true) (stands : numbers.stands ≡ true) (absent : numbers.relative ≡ None) (r : numbers.is_register ≡ false) (acts : List Action) where
  pub base_place_tail : (disp : ℤ) (at_end reg : ℕ) → TailOf (numbers.index / 8) (numbers.base / 8) 1 (reg % 8) (Mem (Some numbers.base) (index_named numbers.index numbers.scale) disp) (λ at. []) acts → TailPartOf plain.enc disp at_end reg (place_named numbers) acts
  base_place_tail disp at_end reg t = address_tail numbers e stands absent h r disp at_end reg acts t

  pub base_place_length : (disp : ℤ) (at_end : ℕ) → length (all_bytes acts) ≡ least_tail (Mem (Some numbers.base) (index_named numbers.index numbers.scale) disp) → length (all_bytes acts) ≡ tail_len (place_read plain.enc disp at_end (place_named numbers))
  base_place_length disp at_end count =
      let place : Place = Mem (Some numbers.base) (index_named numbers.index numbers.scale) disp in
      rw (address_read numbers e stands absent h r disp at_end) count
