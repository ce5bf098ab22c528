-- Written by table/write.py from table/instructions.txt.
-- the 129th variant, which the borrow checker does not cover: Making.antt has the proof
use mathlib.Core.List.{[], ◌∷◌}
use mathlib.Core.Path.{refl}
use mir.Syntax.{a_type, Args, dcons, dnil}
use mir.MapTy.{inst_fn}
use contract.Running.{tables_of}
use denote.Param.{bounded, param, copied}
use denote.Param.Laws.{param_laws, copied_laws}
use borrow.Enum.Known.{at}
use borrow.Enum.Open.{loose_at}
use borrow.Fn.Run.{Over}
use borrow.Fn.World.{World}
use borrow.Fn.Written.{close}
use Rattle.jump.specs.contracts.d8.jo_d8.{the_type as struct}
use Rattle.cax64_inst.specs.contracts.Inst.{enum}
use Rattle.cax64_inst.proofs.Inst.TheLaws.{the_loose}
use Rattle.cax64_inst.proofs.Making as making
use Rattle.cax64_inst.specs.contracts.from_jump.InstFromJo_d8.from.Key as key
use Rattle.cax64_inst.proofs.from_jump.InstFromJo_d8.from.Statement.{statement}
use Rattle.cax64_inst.proofs.from_jump.InstFromJo_d8.from.Code as code
use Rattle.cax64_inst.proofs.from_jump.InstFromJo_d8.from.Kinds as kinds
use Rattle.cax64_inst.proofs.from_jump.InstFromJo_d8.from.Reads as reads

pub from_spec : {M : Type 1} → statement M
unfolding tables_of
from_spec {M} 𝓤 𝓛 𝓜 𝓡 w t1 t2 t3 t4 t5 t6 t7 l1 l2 l3 l4 l5 l6 l7 c2 c3 c4 c5 c6 c7 g1 d1 g2 d2 g3 d3 g4 d4 g5 d5 g6 d6 g7 d7 g8 d8 g9 d9 g10 d10 g11 d11 g12 d12 g13 d13 g14 d14 g15 d15 g16 d16 g17 d17 g18 d18 g19 d19 b1 b2 b3 b4 b5 b6 b7 b8 b9 b10 b11 b12 b13 b14 b15 b16 b17 b18 b19 =
    let N = enum (param 0 t1) (copied 1 t2) (copied 2 t3) (copied 3 t4) (copied 4 t5) (copied 5 t6) (copied 6 t7) g2 g4 g5 g7 g8 g10 g11 g13 g14 g16 g17 g19 in
    let ll = the_loose (param 0 t1) (copied 1 t2) (copied 2 t3) (copied 3 t4) (copied 4 t5) (copied 5 t6) (copied 6 t7) g2 g4 g5 g7 g8 g10 g11 g13 g14 g16 g17 g19 (param_laws 0 t1 l1) (copied_laws 1 t2 l2) (copied_laws 2 t3 l3) (copied_laws 3 t4 l4) (copied_laws 4 t5 l5) (copied_laws 5 t6 l6) (copied_laws 6 t7 l7) in
    let here : World = record { M = M; 𝓤 = 𝓤; 𝓛 = 𝓛; 𝓜 = 𝓜; 𝓡 = 𝓡 } in
    let here_args : Args = bounded (a_type ∷ a_type ∷ a_type ∷ a_type ∷ a_type ∷ a_type ∷ a_type ∷ []) (t1, (t2, (t3, (t4, (t5, (t6, (t7, tt))))))) (dcons d1 (dcons d2 (dcons d3 (dcons d4 (dcons d5 (dcons d6 (dcons d7 (dcons d8 (dcons d9 (dcons d10 (dcons d11 (dcons d12 (dcons d13 (dcons d14 (dcons d15 (dcons d16 (dcons d17 (dcons d18 (dcons d19 dnil))))))))))))))))))) in
    let f = inst_fn here_args code.function in
    close 7 (kinds.ps t1 t2 t3 t4 t5 t6 t7 l1 l2 l3 l4 l5 l6 l7 c2 c3 c4 c5 c6 c7 g1 d1 g2 d2 g3 d3 g4 d4 g5 d5 g6 d6 g7 d7 g8 d8 g9 d9 g10 d10 g11 d11 g12 d12 g13 d13 g14 d14 g15 d15 g16 d16 g17 d17 g18 d18 g19 d19) (kinds.r t1 t2 t3 t4 t5 t6 t7 l1 l2 l3 l4 l5 l6 l7 c2 c3 c4 c5 c6 c7 g1 d1 g2 d2 g3 d3 g4 d4 g5 d5 g6 d6 g7 d7 g8 d8 g9 d9 g10 d10 g11 d11 g12 d12 g13 d13 g14 d14 g15 d15 g16 d16 g17 d17 g18 d18 g19 d19) (reads.Ghost t1 t2 t3 t4 t5 t6 t7 l1 l2 l3 l4 l5 l6 l7 c2 c3 c4 c5 c6 c7 g1 d1 g2 d2 g3 d3 g4 d4 g5 d5 g6 d6 g7 d7 g8 d8 g9 d9 g10 d10 g11 d11 g12 d12 g13 d13 g14 d14 g15 d15 g16 d16 g17 d17 g18 d18 g19 d19) (reads.requires t1 t2 t3 t4 t5 t6 t7 l1 l2 l3 l4 l5 l6 l7 c2 c3 c4 c5 c6 c7 g1 d1 g2 d2 g3 d3 g4 d4 g5 d5 g6 d6 g7 d7 g8 d8 g9 d9 g10 d10 g11 d11 g12 d12 g13 d13 g14 d14 g15 d15 g16 d16 g17 d17 g18 d18 g19 d19) (reads.ensures t1 t2 t3 t4 t5 t6 t7 l1 l2 l3 l4 l5 l6 l7 c2 c3 c4 c5 c6 c7 g1 d1 g2 d2 g3 d3 g4 d4 g5 d5 g6 d6 g7 d7 g8 d8 g9 d9 g10 d10 g11 d11 g12 d12 g13 d13 g14 d14 g15 d15 g16 d16 g17 d17 g18 d18 g19 d19) (reads.pre_read t1 t2 t3 t4 t5 t6 t7 l1 l2 l3 l4 l5 l6 l7 c2 c3 c4 c5 c6 c7 g1 d1 g2 d2 g3 d3 g4 d4 g5 d5 g6 d6 g7 d7 g8 d8 g9 d9 g10 d10 g11 d11 g12 d12 g13 d13 g14 d14 g15 d15 g16 d16 g17 d17 g18 d18 g19 d19) (reads.Pinned t1 t2 t3 t4 t5 t6 t7 l1 l2 l3 l4 l5 l6 l7 c2 c3 c4 c5 c6 c7 g1 d1 g2 d2 g3 d3 g4 d4 g5 d5 g6 d6 g7 d7 g8 d8 g9 d9 g10 d10 g11 d11 g12 d12 g13 d13 g14 d14 g15 d15 g16 d16 g17 d17 g18 d18 g19 d19) (reads.Owned t1 t2 t3 t4 t5 t6 t7 l1 l2 l3 l4 l5 l6 l7 c2 c3 c4 c5 c6 c7 g1 d1 g2 d2 g3 d3 g4 d4 g5 d5 g6 d6 g7 d7 g8 d8 g9 d9 g10 d10 g11 d11 g12 d12 g13 d13 g14 d14 g15 d15 g16 d16 g17 d17 g18 d18 g19 d19) (reads.post_read t1 t2 t3 t4 t5 t6 t7 l1 l2 l3 l4 l5 l6 l7 c2 c3 c4 c5 c6 c7 g1 d1 g2 d2 g3 d3 g4 d4 g5 d5 g6 d6 g7 d7 g8 d8 g9 d9 g10 d10 g11 d11 g12 d12 g13 d13 g14 d14 g15 d15 g16 d16 g17 d17 g18 d18 g19 d19)
    here 𝓡.env (key.name here_args) f (code.unfolded 𝓤 𝓛.H 𝓜 𝓡 w (t1, (t2, (t3, (t4, (t5, (t6, (t7, tt))))))) d1 d2 d3 d4 d5 d6 d7 d8 d9 d10 d11 d12 d13 d14 d15 d16 d17 d18 d19)
    (λ κs a g. tt) (λ κs. reads.owns t1 t2 t3 t4 t5 t6 t7 l1 l2 l3 l4 l5 l6 l7 c2 c3 c4 c5 c6 c7 g1 d1 g2 d2 g3 d3 g4 d4 g5 d5 g6 d6 g7 d7 g8 d8 g9 d9 g10 d10 g11 d11 g12 d12 g13 d13 g14 d14 g15 d15 g16 d16 g17 d17 g18 d18 g19 d19 κs here) (reads.passes t1 t2 t3 t4 t5 t6 t7 l1 l2 l3 l4 l5 l6 l7 c2 c3 c4 c5 c6 c7 g1 d1 g2 d2 g3 d3 g4 d4 g5 d5 g6 d6 g7 d7 g8 d8 g9 d9 g10 d10 g11 d11 g12 d12 g13 d13 g14 d14 g15 d15 g16 d16 g17 d17 g18 d18 g19 d19 here)
    (λ g. making.moved 7 struct N ll tt 129 _ (making.late 127 tt) tt (loose_at N.parts ll 129) (at N 129) (making.pays N 129) (making.tags N 129) (making.the_one (kinds.ps t1 t2 t3 t4 t5 t6 t7 l1 l2 l3 l4 l5 l6 l7 c2 c3 c4 c5 c6 c7 g1 d1 g2 d2 g3 d3 g4 d4 g5 d5 g6 d6 g7 d7 g8 d8 g9 d9 g10 d10 g11 d11 g12 d12 g13 d13 g14 d14 g15 d15 g16 d16 g17 d17 g18 d18 g19 d19) tt).laws
    (reads.Pre t1 t2 t3 t4 t5 t6 t7 l1 l2 l3 l4 l5 l6 l7 c2 c3 c4 c5 c6 c7 g1 d1 g2 d2 g3 d3 g4 d4 g5 d5 g6 d6 g7 d7 g8 d8 g9 d9 g10 d10 g11 d11 g12 d12 g13 d13 g14 d14 g15 d15 g16 d16 g17 d17 g18 d18 g19 d19) (reads.Post t1 t2 t3 t4 t5 t6 t7 l1 l2 l3 l4 l5 l6 l7 c2 c3 c4 c5 c6 c7 g1 d1 g2 d2 g3 d3 g4 d4 g5 d5 g6 d6 g7 d7 g8 d8 g9 d9 g10 d10 g11 d11 g12 d12 g13 d13 g14 d14 g15 d15 g16 d16 g17 d17 g18 d18 g19 d19) (λ κs a p e. refl) 𝓤 𝓛 (Over 𝓛 𝓜 𝓡 𝓡.env) f refl refl)
