use Rattle.std.proofs.Common.{◌≡◌, ℕ, refl, sym, ap, ◌∙◌, Bool, true, Option, None, ℤ, List}
use Rattle.std.specs.Option.{unwrap_or}
use Rattle.std.specs.Prelude.{◌&&◌, option_map}
use Rattle.std.proofs.lemmas.Bool.{and_parts}
use Rattle.cax64_encoder.specs.Encodes.{form_parts}
use Rattle.cax64_encoder.specs.Fault as fault
use Rattle.cax64_encoder.specs.Fault.{all_met, late_offset_fits}
use Rattle.cax64_encoder.specs.Form.{Form, fits, form_of}
use Rattle.cax64_encoder.specs.ImmActions.{imm_named}
use Rattle.cax64_encoder.specs.Meant.{Meant, meant_of, nop_or, operands_meant, place_in}
use Rattle.cax64_encoder.specs.Numbered.{form_named, numbered_form, place_named}
use Rattle.cax64_encoder.specs.Place.{displacement_in, memory_in, place_read}
use Rattle.cax64_encoder.specs.Real.{form_is_real, is_absent_or_real, place_is_real}
use Rattle.cax64_encoder.specs.Role.{roles_of}
use Rattle.cax64_encoder.specs.Visits.{visits_of}
use Rattle.cax64_encoder.specs.declared.numbered.NumberedForm.{NumberedForm}
use Rattle.cax64_encoder.specs.declared.role.Role.{Role}
use Rattle.cax64_encoder.proofs.Encodable.{fits_row, is_real}
use Rattle.cax64_encoder.proofs.Forms.{with_all}
use Rattle.cax64_encoder.proofs.Numbers.{imm_fit, real_of}
use Rattle.cax64_encoder.proofs.Whole.{imm_sized_as}
use Rattle.cax64_machine_code.specs.Line.{imm_bytes}
use Rattle.cax64_machine_code.specs.ReadLine.{parts_as}
use Rattle.cax64_machine_code.specs.Reading.{PartsOf}
use Rattle.cax64_machine_code.specs.Rows.{line_of}
use Rattle.cax64_machine_code.specs.declared.line.Line.{Line}
use Rattle.cax64_machine_code.specs.declared.reading.Place.{Place}
use Rattle.cax64_machine_code.specs.declared.reading.RegView.{RegView}
use Rattle.cax64_machine_code.specs.declared.row.Row.{Row}
use Rattle.cax64_operand.specs.Family.{Family, Numbering}
use Rattle.cax64_operand.specs.Immediate.{imm_size, imm_value}
use Rattle.cax64_operand.specs.OperandList.{list_of, nop_of}
use Rattle.cax64_operand.specs.Signature.{HasSignature}
use Rattle.cax64_operand.specs.declared.immediate.ImmOperand.{ImmOperand}
use Rattle.cax64_operand.specs.declared.nop.Nop.{Nop}
use Rattle.cax64_operand.specs.declared.operand.Operands.{Operands}
use Rattle.cax64_table.specs.Numbers as line
use Rattle.cax64_table.specs.Packed.{number_of}
use Rattle.x64_core.specs.Core.{core_meant, is_encodable, visited_of}
use Rattle.x64_lines.specs.Line.{core_line}
use Rattle.x64_core.specs.View.{CoreView, core_view, place_operand}
use Rattle.x64_core.specs.Viewed.{viewed}
use Rattle.x64_core.specs.declared.instruction.Core.{Core}
use Rattle.x64_lines.proofs.RowLines.{row_line}
use Rattle.x64_of_port.specs.Numbers.{numbered_amode}
use Rattle.x64_of_port.specs.Task.{IsCoreOf}
use Rattle.x64_of_port.proofs.Fits.{Held, reg_is, vvvv_is}
use Rattle.x64_of_port.proofs.Named.{as_low, displacement_same, imm_back, late_same, memory_same, numbers_met, place_reads}

-- An instruction of the core with the numbers of operands means what they do.

-- what these numbers are in a line
abbrev pub named_view : ℕ → Line → NumberedForm → CoreView
named_view op found numbers = record { op = op; reg = numbers.reg; vvvv = numbers.vvvv; place = place_named numbers.place; imm = option_map imm_value (imm_named found.imm numbers.imm) }

-- an instruction with these numbers
pub record HasNumbers (c : Core) (number : ℕ) (numbers : NumberedForm) : Type 0 where
  pub op : c.op.number ≡ number
  pub reg : c.reg ≡ unwrap_or numbers.reg 0
  pub vvvv : c.vvvv ≡ unwrap_or numbers.vvvv 0
  pub place : place_operand (viewed c.place) ≡ place_named numbers.place
  pub imm : c.imm ≡ numbers.imm

view_at : (found : Line) (numbers : NumberedForm) → Held (line.has_register found.tail) numbers.reg → Held (line.has_vvvv found.prefix) numbers.vvvv → (c : Core) (op : ℕ) → HasNumbers c op numbers → core_line op ≡ found → core_view c ≡ named_view op found numbers
view_at found numbers r v c op h is =
    rw (h.op, is, h.reg, h.vvvv, r.when, v.when, h.place, h.imm) refl

pub view_is : (found : Line) (numbers : NumberedForm) → fits found (form_named found numbers) ≡ true → (c : Core) (op : ℕ) → HasNumbers c op numbers → core_line op ≡ found → core_view c ≡ named_view op found numbers
view_is found numbers f c op h is = view_at found numbers (reg_is found numbers f) (vvvv_is found numbers f) c op h is

same_line_parts : {l m : Line} {r s : Option RegView} {v w : Option ℕ} {p q : Option Place} {i j : Option ℤ} → l ≡ m → r ≡ s → v ≡ w → p ≡ q → i ≡ j → ◌≡◌ {A = PartsOf Line} (record { row = l; reg = r; vvvv = v; place = p; imm = i }) (record { row = m; reg = s; vvvv = w; place = q; imm = j })
same_line_parts e f g h k = rw (e, f, g, h, k) refl

-- Of a form of a row whose registers are real.
module _ {M : Type 0} (n : Numbering M) (row : Row) (form : Form M) (fit : fits (line_of row) form ≡ true) (real : form_is_real n.settled n.enc form ≡ true) where
  abbrev v : CoreView
  v = named_view (number_of row) (line_of row) (numbered_form n form)

  place_real : place_is_real n.settled n.enc form.place ≡ true
  place_real = (and_parts (is_absent_or_real form.vvvv) (place_is_real n.settled n.enc form.place) (and_parts (is_absent_or_real form.reg) _ real).1).1

  size_is : imm_bytes (core_line (number_of row)).imm ≡ imm_size form.imm
  size_is = ap (λ (l : Line). imm_bytes l.imm) (row_line row) ∙ imm_sized_as (line_of row) form fit

  place_is : (offsets : ℕ → Option ℤ) → (core_meant v offsets).parts.place ≡ place_read n.enc (displacement_in offsets form.place) (imm_size form.imm) form.place
  place_is offsets =
      ap (λ (d : ℤ). place_read (λ number. number) d (imm_bytes (core_line (number_of row)).imm) v.place) (displacement_same n offsets form.place)
      ∙ ap (λ (k : ℕ). place_read (λ number. number) (displacement_in offsets form.place) k v.place) size_is
      ∙ place_reads n (displacement_in offsets form.place) (imm_size form.imm) form.place place_real

  pub form_parts_are : (offsets : ℕ → Option ℤ) → (core_meant v offsets).parts ≡ parts_as (line_of row) (form_parts n.enc row (displacement_in offsets form.place) form)
  form_parts_are offsets =
      same_line_parts (row_line row) (as_low form.reg) refl (place_is offsets)
      (ap (λ (imm : Option ImmOperand). option_map imm_value imm) (imm_back (line_of row).imm form.imm (imm_fit (line_of row) form fit)))

  pub form_memory : memory_in v.place ≡ option_map (λ amode. numbered_amode n amode) (memory_in form.place)
  form_memory = memory_same n form.place place_real

  pub form_met : all_met (visited_of v) ≡ true
  form_met = numbers_met v.reg v.vvvv v.place (real_of n (numbered_form n form) form refl real)

-- Of operands of a row that can be encoded.
module _ {R A B C D E F : Type 0} (f : Family A B C D E F) (row : Row) (o : Operands R A B C D E F) (none : nop_of o ≡ None) (signature : HasSignature row o) (same : (a b : C) → f.same_write_gpr a b ≡ true → a ≡ b) (known : ℕ → Option ℤ) (can : fault.is_encodable known (meant_of f row o known) ≡ true) where
  abbrev roles : List (Role A)
  roles = roles_of f (list_of o)

  abbrev form : Form A
  form = form_of f (list_of o)

  abbrev view : CoreView
  view = named_view (number_of row) (line_of row) (numbered_form f.read_gpr form)

  meant_is : (offsets : ℕ → Option ℤ) → meant_of f row o offsets ≡ operands_meant f.read_gpr row roles offsets
  meant_is offsets = ap (λ (nop : Option Nop). nop_or row nop (operands_meant f.read_gpr row roles offsets)) none

  fit : fits (line_of row) form ≡ true
  fit = fits_row f row o none signature

  real : form_is_real f.read_gpr.settled f.read_gpr.enc form ≡ true
  real = is_real f row o none same known can

  visits_met : all_met (visits_of f.read_gpr roles) ≡ true
  visits_met =
      let k : fault.is_encodable known (operands_meant f.read_gpr row roles known) ≡ true = rw (meant_is known) at can in
      (and_parts (all_met (visits_of f.read_gpr roles)) _ k).0

  parts_are : (offsets : ℕ → Option ℤ) → (core_meant view offsets).parts ≡ parts_as (line_of row) (meant_of f row o offsets).parts
  parts_are offsets =
      form_parts_are f.read_gpr row form fit real offsets
      ∙ ap (λ (form : Form A). parts_as (line_of row) (form_parts f.read_gpr.enc row (displacement_in offsets form.place) form)) (with_all roles)
      ∙ ap (λ (m : Meant A). parts_as (line_of row) m.parts) (sym (meant_is offsets))

  memory_is : (offsets : ℕ → Option ℤ) → memory_in view.place ≡ option_map (λ amode. numbered_amode f.read_gpr amode) (meant_of f row o offsets).memory
  memory_is offsets =
      form_memory f.read_gpr row form fit real
      ∙ ap (λ (form : Form A). option_map (λ amode. numbered_amode f.read_gpr amode) (memory_in form.place)) (with_all roles)
      ∙ ap (λ (m : Meant A). option_map (λ amode. numbered_amode f.read_gpr amode) m.memory) (sym (meant_is offsets))

  late_is : (offsets : ℕ → Option ℤ) → late_offset_fits offsets (memory_in view.place) ≡ late_offset_fits offsets (memory_in (place_in roles))
  late_is offsets = late_same f.read_gpr offsets form.place ∙ ap (λ (form : Form A). late_offset_fits offsets (memory_in form.place)) (with_all roles)

  encodable_is : (offsets : ℕ → Option ℤ) → is_encodable offsets view ≡ fault.is_encodable offsets (meant_of f row o offsets)
  encodable_is offsets =
      ap (λ (b : Bool). b && late_offset_fits offsets (memory_in view.place)) (form_met f.read_gpr row form fit real)
      ∙ late_is offsets
      ∙ ap (λ (b : Bool). b && late_offset_fits offsets (memory_in (place_in roles))) (sym visits_met)
      ∙ ap (λ (m : Meant A). fault.is_encodable offsets m) (sym (meant_is offsets))

  core_is : IsCoreOf f row o view
  core_is = record { op = refl; parts = parts_are; memory = memory_is; encodable = encodable_is }

  pub is_core : (v : CoreView) → v ≡ view → IsCoreOf f row o v
  is_core v e = rw e core_is
