use Rattle.std.proofs.Common.{◌≡◌, ◌↔◌, ◌&&◌, Bool, true, false, ℕ, nat_eq, int_eq, ℤ, refl, rules, ap, Option, Some, None}
use Rattle.std.specs.Bool.{beq}
use Rattle.std.specs.Option.{option_eq}
use Rattle.std.proofs.lemmas.Option.{same_Some}
use denote.Enum.Bare.{same_true, true_same}
use Rattle.cax64_machine_code.specs.contracts.row.Row.{the_type}
use Rattle.cax64_machine_code.specs.contracts.row.RowPartialEq.TheImpl as row
use Rattle.cax64_machine_code.specs.contracts.reading.RegViewPartialEq.TheImpl as reg_view
use Rattle.cax64_machine_code.specs.contracts.reading.PlacePartialEq.TheImpl as place
use Rattle.cax64_machine_code.specs.contracts.reading.ReadingPartialEq.TheImpl as reading
use Rattle.cax64_machine_code.specs.contracts.line.ImmFieldPartialEq.TheImpl as imm_field
use Rattle.cax64_machine_code.specs.contracts.line.LegacySetPartialEq.TheImpl as legacy_set
use Rattle.cax64_machine_code.specs.contracts.line.LinePartialEq.TheImpl as line
use Rattle.cax64_machine_code.specs.contracts.line.OpcodePartialEq.TheImpl as opcode
use Rattle.cax64_machine_code.specs.contracts.line.PrefixFieldPartialEq.TheImpl as prefix_field
use Rattle.cax64_machine_code.specs.contracts.line.TailFieldPartialEq.TheImpl as tail_field
use Rattle.cax64_machine_code.specs.contracts.line.VvvvFieldPartialEq.TheImpl as vvvv_field
use Rattle.cax64_machine_code.specs.declared.line.ImmField.{ImmField}
use Rattle.cax64_machine_code.specs.declared.line.LegacySet.{LegacySet}
use Rattle.cax64_machine_code.specs.declared.line.Line.{Line}
use Rattle.cax64_machine_code.specs.declared.line.Opcode.{Opcode}
use Rattle.cax64_machine_code.specs.declared.line.PrefixField.{PrefixField}
use Rattle.cax64_machine_code.specs.declared.line.PrefixField.TheVariants.{LegacyField, VexField}
use Rattle.cax64_machine_code.specs.declared.line.TailField.{TailField}
use Rattle.cax64_machine_code.specs.declared.line.VvvvField.{VvvvField}
use Rattle.cax64_machine_code.specs.declared.reading.Place.{Place}
use Rattle.cax64_machine_code.specs.declared.reading.Reading.{Reading}
use Rattle.cax64_machine_code.specs.declared.reading.RegView.{RegView}
use Rattle.cax64_machine_code.specs.declared.row.Row.{Row}

-- what `==` answers

-- a test tells whether something holds
abbrev pub Tells : Bool → Type 0 → Type 0
Tells test P = (test ≡ true) ↔ P

both : (a b : Bool) → (a && b) ≡ true → (a ≡ true) × (b ≡ true)
both true b h = (refl, h)
both false b h = cc

joined : (a b : Bool) → a ≡ true → b ≡ true → (a && b) ≡ true
joined true b h k = k
joined false b h k = cc

tells_both : {P Q : Type 0} (a b : Bool) → Tells a P → Tells b Q → Tells (a && b) (P × Q)
tells_both a b p q = (λ h. let parts = both a b h in (p.0 parts.0, q.0 parts.1), λ h. joined a b (p.1 h.0) (q.1 h.1))

tells_option : {A : Type 0} (eq : A → A → Bool) → ((a b : A) → Tells (eq a b) (a ≡ b)) → (a b : Option A) → Tells (option_eq eq a b) (a ≡ b)
tells_option eq tells None None = (λ h. refl, λ h. refl)
tells_option eq tells None (Some b) = (λ h. cc, λ h. cc)
tells_option eq tells (Some a) None = (λ h. cc, λ h. cc)
tells_option {A} eq tells (Some a) (Some b) = (λ h. ap (λ (x : A). Some x) ((tells a b).0 h), λ h. (tells a b).1 (same_Some a b h))

tells_number : (a b : ℕ) → Tells (nat_eq a b) (a ≡ b)
tells_number a b = search rules

tells_signed : (a b : ℤ) → Tells (int_eq a b) (a ≡ b)
tells_signed a b = search rules

pub tells_row : (a b : Row) → Tells ((row.ghosts).eq a b) (a ≡ b)
tells_row a b = (same_true the_type (search rules) a b, true_same the_type a b)

tells_register : (a b : RegView) → Tells ((reg_view.ghosts).eq a b) (a ≡ b)
tells_register a b = search rules

tells_place : (a b : Place) → Tells ((place.ghosts).eq a b) (a ≡ b)
tells_place a b = search rules

-- the fields of a reading
abbrev pub EqualFields : Reading → Reading → Type 0
EqualFields a b = (a.row ≡ b.row) × ((a.length ≡ b.length) × ((a.tail ≡ b.tail) × ((a.reg ≡ b.reg) × ((a.vvvv ≡ b.vvvv) × ((a.place ≡ b.place) × (a.imm ≡ b.imm))))))

same_reading : (row row2 : Row) (length length2 tail tail2 : ℕ) (reg reg2 : Option RegView) (vvvv vvvv2 : Option ℕ) (place place2 : Option Place) (imm imm2 : Option ℤ) → row ≡ row2 → length ≡ length2 → tail ≡ tail2 → reg ≡ reg2 → vvvv ≡ vvvv2 → place ≡ place2 → imm ≡ imm2 → ◌≡◌ {A = Reading} (record { row = row; length = length; tail = tail; reg = reg; vvvv = vvvv; place = place; imm = imm }) (record { row = row2; length = length2; tail = tail2; reg = reg2; vvvv = vvvv2; place = place2; imm = imm2 })
same_reading row row2 length length2 tail tail2 reg reg2 vvvv vvvv2 place place2 imm imm2 e0 e1 e2 e3 e4 e5 e6 = rw (e0, e1, e2, e3, e4, e5, e6) refl

from_fields : (a b : Reading) → EqualFields a b → a ≡ b
from_fields a b e = same_reading a.row b.row a.length b.length a.tail b.tail a.reg b.reg a.vvvv b.vvvv a.place b.place a.imm b.imm e.0 e.1.0 e.1.1.0 e.1.1.1.0 e.1.1.1.1.0 e.1.1.1.1.1.0 e.1.1.1.1.1.1

fields : (a b : Reading) → a ≡ b → EqualFields a b
fields a b e = (ap (λ (z : Reading). z.row) e, (ap (λ (z : Reading). z.length) e, (ap (λ (z : Reading). z.tail) e, (ap (λ (z : Reading). z.reg) e, (ap (λ (z : Reading). z.vvvv) e, (ap (λ (z : Reading). z.place) e, ap (λ (z : Reading). z.imm) e))))))

tells_fields : (a b : Reading) → Tells ((reading.ghosts).eq a b) (EqualFields a b)
tells_fields a b =
    tells_both _ _ (tells_row a.row b.row)
    (tells_both _ _ (tells_number a.length b.length)
    (tells_both _ _ (tells_number a.tail b.tail)
    (tells_both _ _ (tells_option _ tells_register a.reg b.reg)
    (tells_both _ _ (tells_option _ tells_number a.vvvv b.vvvv)
    (tells_both _ _ (tells_option _ tells_place a.place b.place) (tells_option _ tells_signed a.imm b.imm))))))

pub tells_reading : (a b : Reading) → Tells ((reading.ghosts).eq a b) (a ≡ b)
tells_reading a b = let t = tells_fields a b in (λ h. from_fields a b (t.0 h), λ e. t.1 (fields a b e))

-- lines of the table

tells_opcode : (a b : Opcode) → Tells ((opcode.ghosts).eq a b) (a ≡ b)
tells_opcode a b = search rules

tells_flag : (a b : Bool) → Tells (beq a b) (a ≡ b)
tells_flag a b = search rules

tells_set : (a b : LegacySet) → Tells ((legacy_set.ghosts).eq a b) (a ≡ b)
tells_set a b = search rules

tells_vvvv : (a b : VvvvField) → Tells ((vvvv_field.ghosts).eq a b) (a ≡ b)
tells_vvvv a b = search rules

same_legacy : (s t : LegacySet) (x y : Bool) → LegacyField s x ≡ LegacyField t y → (s ≡ t) × (x ≡ y)
same_legacy s t x y e = (cc, cc)

same_vex : (p q m n l k : ℕ) (v w : VvvvField) → VexField p m l v ≡ VexField q n k w → (p ≡ q) × ((m ≡ n) × ((l ≡ k) × (v ≡ w)))
same_vex p q m n l k v w e = (cc, (cc, (cc, cc)))

pub tells_prefix : (a b : PrefixField) → Tells ((prefix_field.ghosts).eq a b) (a ≡ b)
tells_prefix (LegacyField s x) (LegacyField t y) =
    let p = tells_both _ _ (tells_set s t) (tells_flag x y) in
    (λ h. let e = p.0 h in rw (e.0, e.1) refl, λ e. p.1 (same_legacy s t x y e))
tells_prefix (LegacyField s x) (VexField q n k w) = (λ h. cc, λ h. cc)
tells_prefix (VexField p m l v) (LegacyField t y) = (λ h. cc, λ h. cc)
tells_prefix (VexField p m l v) (VexField q n k w) =
    let r = tells_both _ _ (tells_number p q) (tells_both _ _ (tells_number m n) (tells_both _ _ (tells_number l k) (tells_vvvv v w))) in
    (λ h. let e = r.0 h in rw (e.0, e.1.0, e.1.1.0, e.1.1.1) refl, λ e. r.1 (same_vex p q m n l k v w e))

tells_tail : (a b : TailField) → Tells ((tail_field.ghosts).eq a b) (a ≡ b)
tells_tail a b = search rules

tells_imm : (a b : ImmField) → Tells ((imm_field.ghosts).eq a b) (a ≡ b)
tells_imm a b = search rules

-- the fields of a line
abbrev pub EqualLineFields : Line → Line → Type 0
EqualLineFields a b = (a.prefix ≡ b.prefix) × ((a.w ≡ b.w) × ((a.opcode ≡ b.opcode) × ((a.tail ≡ b.tail) × (a.imm ≡ b.imm))))

same_line : (prefix prefix2 : PrefixField) (w w2 : Option ℕ) (opcode opcode2 : Opcode) (tail tail2 : TailField) (imm imm2 : ImmField) → prefix ≡ prefix2 → w ≡ w2 → opcode ≡ opcode2 → tail ≡ tail2 → imm ≡ imm2 → ◌≡◌ {A = Line} (record { prefix = prefix; w = w; opcode = opcode; tail = tail; imm = imm }) (record { prefix = prefix2; w = w2; opcode = opcode2; tail = tail2; imm = imm2 })
same_line prefix prefix2 w w2 opcode opcode2 tail tail2 imm imm2 e0 e1 e2 e3 e4 = rw (e0, e1, e2, e3, e4) refl

from_line_fields : (a b : Line) → EqualLineFields a b → a ≡ b
from_line_fields a b e = same_line a.prefix b.prefix a.w b.w a.opcode b.opcode a.tail b.tail a.imm b.imm e.0 e.1.0 e.1.1.0 e.1.1.1.0 e.1.1.1.1

line_fields : (a b : Line) → a ≡ b → EqualLineFields a b
line_fields a b e = (ap (λ (z : Line). z.prefix) e, (ap (λ (z : Line). z.w) e, (ap (λ (z : Line). z.opcode) e, (ap (λ (z : Line). z.tail) e, ap (λ (z : Line). z.imm) e))))

tells_line_fields : (a b : Line) → Tells ((line.ghosts).eq a b) (EqualLineFields a b)
tells_line_fields a b =
    tells_both _ _ (tells_prefix a.prefix b.prefix)
    (tells_both _ _ (tells_option _ tells_number a.w b.w)
    (tells_both _ _ (tells_opcode a.opcode b.opcode)
    (tells_both _ _ (tells_tail a.tail b.tail) (tells_imm a.imm b.imm))))

pub tells_line : (a b : Line) → Tells ((line.ghosts).eq a b) (a ≡ b)
tells_line a b = let t = tells_line_fields a b in (λ h. from_line_fields a b (t.0 h), λ e. t.1 (line_fields a b e))
