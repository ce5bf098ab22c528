use Rattle.std.proofs.Common.{rules, ◌≡◌, sym, ap, ◌∙◌, Some, slice_index_or}
use Rattle.std.specs.Prelude.{◌≢◌}
use Rattle.std.proofs.lemmas.Option.{same_Some, none-some}
use Rattle.cax64_machine_code.specs.Rows.{all_rows, name_of}
use Rattle.cax64_machine_code.specs.declared.row.Row.{Row}
use Rattle.cax64_machine_code.specs.declared.row.Row.TheVariants.{lock_addb_mi}
use Rattle.cax64_machine_code.proofs.Named.{same_name, from_next, from_end}
use Rattle.cax64_machine_code.proofs.row.Row.from_name.Goals as goal

pub returns-then-eq : goal.returns-then-eq
returns-then-eq c row =
    let e : name_of (slice_index_or c.all-row-items.result.now c.loop-row.row-index lock_addb_mi) ≡ c.args.name.now = search rules in
    (λ h. sym (ap name_of (same_Some _ row h)) ∙ e, λ h. ap (λ (r : Row). Some r) (same_name _ row (e ∙ sym h)))

pub loop-row-preserved : goal.loop-row-preserved
loop-row-preserved c =
    let other : name_of (slice_index_or all_rows c.loop-row.row-index lock_addb_mi) ≢ c.args.name.now = search rules in
    (c.loop-row.invariant.0, from_next c.loop-row.row-index c.args.name.now c.loop-row.invariant.1 other)

pub returns : goal.returns
returns c row =
    let none : name_of row ≢ c.args.name.now = from_end c.loop-row.row-index c.args.name.now (search rules) c.loop-row.invariant.1 row in
    (λ h. absurd (none-some row h), λ h. absurd (none h))
