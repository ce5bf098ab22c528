use Rattle.std.proofs.Common.{◌∙◌, FitsSigned, refl, w32, rules}
use Rattle.std.proofs.lemmas.Int.{to_z-of_z}
use Rattle.x64_plain.proofs.Flat.{back, beside, plain_of, scale_found}
use Rattle.x64_plain.proofs.place.HqPlace.whole_numbers.Goals as goal

pub invariant_of-result : goal.invariant_of-result
invariant_of-result c =
    let small : FitsSigned w32 c.args.self.now.disp = search rules in
    let index = beside c.args.kind c.args.self.now c.from.result 0 c.requires.whole c.requires.own c.from.ensures in
    let scale = scale_found c.args.kind c.args.self.now c.from-2.result _ c.requires.whole c.from-2.ensures in
    record { plain = rw index (plain_of c.args.kind c.args.self.now _ _ _ _ c.requires.whole scale c.trap_of.ensures c.offset_of.ensures (c.new.ensures ∙ to_z-of_z w32 c.args.self.now.disp small)) }

pub returns-clause-is : goal.returns-clause-is
returns-clause-is c =
    let small : FitsSigned w32 c.args.self.now.disp = search rules in
    let index = beside c.args.kind c.args.self.now _ _ c.requires.whole c.requires.own c.from.ensures in
    let scale = scale_found c.args.kind c.args.self.now c.from-2.result _ c.requires.whole c.from-2.ensures in
    back c.args.kind c.args.self.now _ (record { place = refl; base = refl; index = index; scale = scale; trap = c.trap_of.ensures; offset = c.offset_of.ensures; disp = c.new.ensures ∙ to_z-of_z w32 c.args.self.now.disp small; target = refl }) c.requires.whole c.requires.own

pub returns-clause-index : goal.returns-clause-index
returns-clause-index c = beside c.args.kind c.args.self.now _ _ c.requires.whole c.requires.own c.from.ensures
