use Rattle.std.proofs.Common.{◌≡◌, ◌<◌, ◌∷◌, ◌∙◌, sym, refl, Option, Some, None}
use Rattle.std.specs.Prelude.{IfSome, option_map}
use Rattle.std.specs.Int.{from_bool}
use Rattle.cax64_machine_code.specs.Tail as definitions
use Rattle.cax64_machine_code.specs.Tail.{read_tail}
use Rattle.cax64_reader.specs.Lengths.{Within}
use Rattle.cax64_reader.specs.Found.{tail_of}
use Rattle.cax64_reader.specs.declared.tail.Tail.{Tail}
use Rattle.cax64_reader.proofs.Numbers.{nothing_left}
use Rattle.cax64_table.proofs.Seen.{front_is}
use Rattle.cax64_reader.proofs.Lengths.{tail_length, tail_reg}
use Rattle.cax64_reader.proofs.tail.read_tail.Goals as goal

-- what holds of the tail that the definitions read
of_some : (P : definitions.Tail → Type 0) (o : Option Tail) → ((t : definitions.Tail) → option_map tail_of o ≡ Some t → P t) → IfSome o (λ t. P (tail_of t))
of_some P None h = tt
of_some P (Some t) h = h (tail_of t) refl

pub returns-in_err-modrm-clause-is : goal.returns-in_err-modrm-clause-is
unfolding read_tail
returns-in_err-modrm-clause-is c = rw (c.from_residual.ensures, nothing_left c.args.bytes.now c.in_err-modrm.ensures) refl

pub returns-clause-reg : goal.returns-clause-reg
returns-clause-reg c = of_some (λ t. t.reg < 8) c.behind_modrm.result
    (λ t h. tail_reg (from_bool c.args.x) (from_bool c.args.b) 1 c.in_ok-modrm.modrm c.in_ok-modrm.rest.now t (sym c.behind_modrm.ensures ∙ h))

pub returns-clause-length : goal.returns-clause-length
returns-clause-length c = of_some (λ t. Within c.args.bytes.now t.rest 6) c.behind_modrm.result
    (λ t h. let w = tail_length (from_bool c.args.x) (from_bool c.args.b) 1 (c.in_ok-modrm.modrm ∷ c.in_ok-modrm.rest.now) t (sym c.behind_modrm.ensures ∙ h) in
    rw (front_is c.args.bytes.now c.in_ok-modrm.rest.now c.in_ok-modrm.modrm c.in_ok-modrm.ensures) w)
