use Rattle.std.specs.Prelude.{ℕ, ◌-◌, ◌==◌, not, nat_le, if◌then◌else◌, Option, Some, None}
use Rattle.std.specs.Int.{from_bool}
use Rattle.std.specs.Int.NonZero.{non_zero_u8_get}
use Rattle.x64_plain.specs.declared.place.HqPlace.{HqPlace}
use Rattle.x64_plain.specs.declared.place.TheConstants.{HQ_PLACE_LABEL}
use Rattle.x64_plain.specs.declared.told.HqUse.{HqUse}
use Rattle.x64_plain.specs.declared.told.TheConstants.{HQ_TOLD_CONSTANT, HQ_TOLD_LABEL, HQ_TOLD_NOTHING, HQ_TOLD_PLACE, HQ_TOLD_TRAP}
use Rattle.cax64_sink.specs.declared.DeferredTarget.TheVariants as target
use Rattle.cax64_sink.specs.declared.Notice.{Notice}
use Rattle.cax64_sink.specs.declared.Notice.TheVariants.{Trap, Target}

-- What a notice tells, in integers.

abbrev pub place_told : Notice → ℕ
place_told (Trap at code) = at
place_told (Target at target) = at

abbrev pub told : Option Notice → HqUse
told None = record { at = 0; kind = HQ_TOLD_NOTHING; number = 0 }
told (Some (Trap at code)) = record { at = at; kind = HQ_TOLD_TRAP; number = non_zero_u8_get code.0 }
told (Some (Target at (target.Label label))) = record { at = at; kind = HQ_TOLD_LABEL; number = label.0 }
told (Some (Target at (target.Constant constant))) = record { at = at; kind = HQ_TOLD_CONSTANT; number = constant.0 }
told (Some (Target at target.None)) = record { at = at; kind = HQ_TOLD_PLACE; number = 0 }

-- what a place tells where a displacement of four bytes stands behind so many
abbrev pub told_at : HqPlace → ℕ → HqUse
told_at place behind = if nat_le HQ_PLACE_LABEL place.place then record { at = behind; kind = place.place - (HQ_PLACE_LABEL - HQ_TOLD_LABEL); number = place.target } else record { at = 0; kind = from_bool (not (place.trap == 0)); number = place.trap }
