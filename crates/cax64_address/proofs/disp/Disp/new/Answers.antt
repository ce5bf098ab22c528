use Rattle.std.proofs.Common.{rules, ◌≡◌, ◌≢◌, ◌∙◌, sym, ◌≤ℤ◌, ◌*ℤ◌, arith, pos, FitsSigned, w8, w32, refl}
use Rattle.std.proofs.lemmas.Int.{ints, to_z-of_z}
use Rattle.cax64_address.specs.Displacement.{IsClassOf, factor_of}
use Rattle.cax64_address.specs.declared.disp.Disp.TheVariants.{None, Imm8, Imm32}
use Rattle.cax64_address.proofs.Classes.{class_back, divided, not_divided, not_fitting, alone}
use Rattle.cax64_address.proofs.disp.Disp.new.Goals as goal

pub returns-then-val-eq0 : goal.returns-then-val-eq0
returns-then-val-eq0 c =
    let k : c.args.val ≡ pos 0 = omega (arith, ints) in
    record { class = k; gives_back = class_back (factor_of c.args.evex_scaling) c.args.val None c.ranges.val k }

pub returns-in-Ok : goal.returns-in-Ok
returns-in-Ok c =
    let f : FitsSigned w8 c.in-Some.scaling = search rules in
    let positive : pos 1 ≤ℤ c.in-Some.scaling = rw c.in-Some.is at c.requires in
    let fv : FitsSigned w8 c.in-Ok.scaled = rw c.in-Ok.ensures.1 c.in-Ok.ensures.0 in
    let not_zero : c.args.val ≢ pos 0 = λ e. c.if-val-eq0.false (rw e refl) in
    let quotient = divided c.args.val c.in-Some.scaling c.from-scaling.result c.in-Ok.scaled c.ranges.val positive f c.from-scaling.ensures c.if-val-scaling-eq0.true c.in-Ok.ensures.1 in
    let k : IsClassOf (factor_of c.args.evex_scaling) c.args.val (Imm8 c.in-Ok.scaled) = rw c.in-Some.is (not_zero, fv, quotient) in
    rw (to_z-of_z w8 c.in-Ok.scaled fv) (record { class = k; gives_back = class_back _ _ (Imm8 c.in-Ok.scaled) c.ranges.val k })

pub returns-in_default : goal.returns-in_default
returns-in_default c =
    let f : FitsSigned w8 c.in-Some.scaling = search rules in
    let positive : pos 1 ≤ℤ c.in-Some.scaling = rw c.in-Some.is at c.requires in
    let not_zero : c.args.val ≢ pos 0 = λ e. c.if-val-eq0.false (rw e refl) in
    let none = not_fitting c.args.val c.in-Some.scaling c.from-scaling.result c.ranges.val positive f c.from-scaling.ensures c.in_default.ensures in
    let k : IsClassOf (factor_of c.args.evex_scaling) c.args.val (Imm32 c.args.val) = rw c.in-Some.is (not_zero, refl, none) in
    rw (to_z-of_z w32 c.args.val c.ranges.val) (record { class = k; gives_back = class_back _ _ (Imm32 c.args.val) c.ranges.val k })

pub returns-else-val-scaling-eq0 : goal.returns-else-val-scaling-eq0
returns-else-val-scaling-eq0 c =
    let f : FitsSigned w8 c.in-Some.scaling = search rules in
    let positive : pos 1 ≤ℤ c.in-Some.scaling = rw c.in-Some.is at c.requires in
    let not_zero : c.args.val ≢ pos 0 = λ e. c.if-val-eq0.false (rw e refl) in
    let none = not_divided c.args.val c.in-Some.scaling c.from-scaling.result c.ranges.val positive f c.from-scaling.ensures c.if-val-scaling-eq0.false in
    let k : IsClassOf (factor_of c.args.evex_scaling) c.args.val (Imm32 c.args.val) = rw c.in-Some.is (not_zero, refl, none) in
    rw (to_z-of_z w32 c.args.val c.ranges.val) (record { class = k; gives_back = class_back _ _ (Imm32 c.args.val) c.ranges.val k })

pub returns-in-Ok-try_from : goal.returns-in-Ok-try_from
returns-in-Ok-try_from c =
    let fv : FitsSigned w8 c.in-Ok-try_from.val = rw c.in-Ok-try_from.ensures.1 c.in-Ok-try_from.ensures.0 in
    let not_zero : c.args.val ≢ pos 0 = λ e. c.if-val-eq0.false (rw e refl) in
    let same : c.in-Ok-try_from.val *ℤ pos 1 ≡ c.args.val = alone c.in-Ok-try_from.val ∙ omega (arith, ints, c.in-Ok-try_from.ensures.1) in
    let k : IsClassOf (factor_of c.args.evex_scaling) c.args.val (Imm8 c.in-Ok-try_from.val) = rw c.in-None.is (not_zero, fv, same) in
    rw (to_z-of_z w8 c.in-Ok-try_from.val fv) (record { class = k; gives_back = class_back _ _ (Imm8 c.in-Ok-try_from.val) c.ranges.val k })

pub returns-in-Err : goal.returns-in-Err
returns-in-Err c =
    let not_zero : c.args.val ≢ pos 0 = λ e. c.if-val-eq0.false (rw e refl) in
    let k : IsClassOf (factor_of c.args.evex_scaling) c.args.val (Imm32 c.args.val) = rw c.in-None.is (not_zero, refl, λ q fq e. let same : q ≡ c.args.val = sym (alone q) ∙ e in c.in-Err.ensures (rw (to_z-of_z w32 c.args.val c.ranges.val, ← same) fq)) in
    rw (to_z-of_z w32 c.args.val c.ranges.val) (record { class = k; gives_back = class_back _ _ (Imm32 c.args.val) c.ranges.val k })
