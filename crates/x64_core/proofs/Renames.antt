use Rattle.std.proofs.Common.{◌≡◌, ℕ, refl, sym, ap, ◌∙◌, Bool, true, false, Option, Some, None, List, slice_index}
use Rattle.std.specs.Prelude.{option_map, ◌&&◌, ◌||◌, ◌==◌, is_some, nat_lt, unwrap_or}
use Rattle.std.proofs.lemmas.Bool.{and_parts}
use Rattle.cax64_address.specs.declared.amode.Amode.TheVariants.{ImmReg, ImmRegRegShift, RipRelative}
use Rattle.cax64_encoder.specs.declared.role.PlaceOperand.{PlaceOperand}
use Rattle.cax64_encoder.specs.declared.role.PlaceOperand.TheVariants as operand
use Rattle.cax64_machine_code.specs.Line.{same_bool}
use Rattle.x64_place.specs.Operand as numbers
use Rattle.x64_place.specs.Renamed as flat
use Rattle.x64_place.specs.declared.place.FlatPlace.{FlatPlace}
use Rattle.x64_place.specs.declared.place.PlaceKind.{PlaceKind}
use Rattle.x64_place.specs.declared.place.PlaceKind.TheVariants as kinds
use Rattle.x64_core.specs.Fits.{core_fits, place_fits}
use Rattle.x64_lines.specs.Line.{core_line}
use Rattle.x64_core.specs.Rename.{home_if, renamed, renamed_place}
use Rattle.x64_lines.specs.Shape.{has_reg, has_vvvv, shape_of}
use Rattle.x64_core.specs.View.{core_view, place_operand, when}
use Rattle.x64_core.specs.Viewed.{viewed, viewed_by}
use Rattle.x64_core.specs.declared.instruction.Core.{Core}
use Rattle.x64_core.specs.declared.place.CorePlace.{CorePlace}
use Rattle.x64_lines.specs.declared.shapes.OpFields.{OpFields}
use Rattle.x64_lines.specs.declared.shapes.OpShape.{OpShape}
use Rattle.x64_lines.proofs.Facts.{facts}
use Rattle.x64_core.proofs.MadeOf.{view_at}
use Rattle.x64_core.proofs.Viewed.{viewed_operand}

-- Other numbers in the place of those that an instruction holds.

kept_if : (b : Bool) (homes : List ℕ) (n : ℕ) → (b || (n == 0)) ≡ true → (b || (home_if b homes n == 0)) ≡ true
kept_if true homes n h = refl
kept_if false homes n h = h

four : (a b c d : Bool) → a ≡ true → b ≡ true → c ≡ true → d ≡ true → (a && (b && (c && d))) ≡ true
four a b c d e f g h = rw (e, f, g, h) refl

pub renamed_fits : (s : OpShape) (reg vvvv : ℕ) (p q : CorePlace) (word : ℕ) (homes : List ℕ) → core_fits s reg vvvv p word ≡ true → ((fields : OpFields) → place_fits fields q ≡ place_fits fields p) → core_fits s (home_if (has_reg s.fields) homes reg) (home_if (has_vvvv s.fields) homes vvvv) q word ≡ true
renamed_fits s reg vvvv p q word homes h e =
    let a = and_parts (place_fits s.fields p) _ h in
    let b = and_parts (nat_lt word _) _ a.1 in
    let d = and_parts (has_reg s.fields || (reg == 0)) _ b.1 in
    four _ _ _ _ (e s.fields ∙ a.0) b.0 (kept_if (has_reg s.fields) homes reg d.0) (kept_if (has_vvvv s.fields) homes vvvv d.1)

pub fits_found : (c : Core) (homes : List ℕ) (q : FlatPlace) (s : OpShape) (b d : Bool) (r v : ℕ) → s ≡ shape_of c.op.number → b ≡ has_reg s.fields → d ≡ has_vvvv s.fields → r ≡ home_if b homes c.reg → v ≡ home_if d homes c.vvvv → ((fields : OpFields) → place_fits fields (viewed q) ≡ place_fits fields (viewed c.place)) → core_fits (shape_of c.op.number) r v (viewed q) c.imm ≡ true
fits_found c homes q s b d r v es eb ed er ev e = rw (er, ev, eb, ed, es) (renamed_fits (shape_of c.op.number) c.reg c.vvvv (viewed c.place) (viewed q) c.imm homes c.shape e)

when_home : (b : Bool) (homes : List ℕ) (n : ℕ) → when b (home_if b homes n) ≡ option_map (slice_index homes) (when b n)
when_home true homes n = refl
when_home false homes n = refl

pub renamed_view : (c : Core) (homes : List ℕ) (q : CorePlace) → place_operand q ≡ renamed_place (slice_index homes) (place_operand (viewed c.place)) → view_at (core_line c.op.number) c.op.number (home_if (has_reg (shape_of c.op.number).fields) homes c.reg) (home_if (has_vvvv (shape_of c.op.number).fields) homes c.vvvv) q c.imm ≡ renamed (slice_index homes) (core_view c)
renamed_view c homes q e =
    let f = facts c.op in
    rw (f.reg, f.vvvv, e, when_home (has_reg (shape_of c.op.number).fields) homes c.reg, when_home (has_vvvv (shape_of c.op.number).fields) homes c.vvvv) refl

pub renamed_all : (c : Core) (homes : List ℕ) (q : CorePlace) (s : OpShape) (b d : Bool) (r v : ℕ) → s ≡ shape_of c.op.number → b ≡ has_reg s.fields → d ≡ has_vvvv s.fields → r ≡ home_if b homes c.reg → v ≡ home_if d homes c.vvvv → place_operand q ≡ renamed_place (slice_index homes) (place_operand (viewed c.place)) → view_at (core_line c.op.number) c.op.number r v q c.imm ≡ renamed (slice_index homes) (core_view c)
renamed_all c homes q s b d r v es eb ed er ev e = rw (er, ev, eb, ed, es) (renamed_view c homes q e)

place_renamed : (home : ℕ → ℕ) (o : PlaceOperand ℕ) → flat.renamed_place home o ≡ renamed_place home o
place_renamed home operand.NoPlace = refl
place_renamed home (operand.Register n) = refl
place_renamed home (operand.Memory (ImmReg base simm32 trap)) = refl
place_renamed home (operand.Memory (ImmRegRegShift base index scale simm32 trap)) = refl
place_renamed home (operand.Memory (RipRelative target)) = refl

-- the place that renamed numbers are
pub viewed_renamed : (home : ℕ → ℕ) (p q : FlatPlace) → numbers.place_operand q ≡ flat.renamed_place home (numbers.place_operand p) → place_operand (viewed q) ≡ renamed_place home (place_operand (viewed p))
viewed_renamed home p q h = viewed_operand q ∙ h ∙ place_renamed home (numbers.place_operand p) ∙ ap (renamed_place home) (sym (viewed_operand p))

fits_when : (fields : OpFields) (kind : PlaceKind) (p q : FlatPlace) → place_fits fields (viewed_by kind q) ≡ place_fits fields (viewed_by kind p)
fits_when fields kinds.Absent p q = refl
fits_when fields kinds.Register p q = refl
fits_when fields kinds.Base p q = refl
fits_when fields kinds.BaseAndIndex p q = refl
fits_when fields kinds.Label p q = refl
fits_when fields kinds.Constant p q = refl
fits_when fields kinds.NoTarget p q = refl

-- a place of the same kind fits the same fields
pub fits_alike : (p q : FlatPlace) → q.kind ≡ p.kind → (fields : OpFields) → place_fits fields (viewed q) ≡ place_fits fields (viewed p)
fits_alike p q e fields = ap (λ (kind : PlaceKind). place_fits fields (viewed_by kind q)) e ∙ fits_when fields p.kind p q

same_is : (a b : Bool) → same_bool a b ≡ true → a ≡ b
same_is true true h = refl
same_is true false h = cc
same_is false true h = cc
same_is false false h = refl

-- whether something stands there is whether it was given
pub stands_as : (there : OpFields → Bool) (s : OpShape) (n : ℕ) (b d : Bool) (o : Option ℕ) → s ≡ shape_of n → b ≡ there s.fields → d ≡ is_some o → true ≡ same_bool b d → there (shape_of n).fields ≡ is_some o
stands_as there s n b d o es eb ed same = (rw es at (sym eb)) ∙ same_is b d (sym same) ∙ ed

-- What is given where it stands.
pub given : (b : Bool) (o : Option ℕ) → b ≡ is_some o → when b (unwrap_or o 0) ≡ o
given true None h = cc
given true (Some n) h = refl
given false None h = refl
given false (Some n) h = cc
