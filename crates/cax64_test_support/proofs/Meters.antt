-- A meter's functions at a call: what each is handed, and what a caller has of it. Assumes `Logic`.
--     Refuses      the contract of `refuses`.  Counts      that of `hold`, and of `release`
--     at_refuses, at_counts      the call, of a `&` to the meter and a size.  Those in -goes and -gives      before it, and after
use Rattle.std.proofs.Common.{◌≡◌, ℕ, ◌^◌, ◌<◌, Bool, List, [], ◌∷◌, refl, ap, w64}
use seplogic.Ra.Ura.{Ura}
use mir.Val.{Val, vunit, vbool, vint, vptr}
use base.Logic.{SProp, ent, sep, ex, guard, id⊢}
use base.Fml.{Lft, Share, ftrue, fsep, flft}
use prog.Memory.{Memory}
use prog.Routine.{Routine}
use types.Logic.{Logic, sem}
use contract.Monad.{Fun}
use types.Kit.{‵, raw, ◌⊛◌, some, later, ◌$◌, ◌∵◌, !, qed, move, keep, use1, split, join, pick, fjoin, feq_i, flt_i, feq_l, check, show, await, updating, now as at_once, done}
use denote.RattleType.{RattleType}
use denote.Memory.{hidden_shr}
use denote.Builtin.{bool, unit}
use denote.Steps.{nothing, only}
use denote.Triple.Statement.{Contract}
use denote.Triple.Spec.{triple_of}
use Rattle.cax64_test_support.specs.declared.heap.Meter.{Meter}
use Rattle.cax64_test_support.specs.contracts.heap.Meter as the_meter
use Rattle.cax64_test_support.specs.contracts.heap.refuses as refuses
use Rattle.cax64_test_support.specs.contracts.heap.hold as hold

abbrev pub Metered : RattleType
Metered = the_meter.the_row

module _ {M : Type 1} {𝓤 : Ura M} (𝓛 : Logic 𝓤) (at_mem : Memory → SProp 𝓤) (run : Routine → Fun 𝓤) where
  abbrev pub Refuses : Contract 𝓤
  Refuses = triple_of 𝓛 refuses.signature (refuses.spec 𝓛 at_mem run)

  abbrev pub Counts : Contract 𝓤
  Counts = triple_of 𝓛 hold.signature (hold.spec 𝓛 at_mem run)

  abbrev pub at_refuses : Lft → Share → ℕ × ℕ → Meter → ℕ → Refuses.Ghost
  at_refuses κ q c m n = (((κ, tt), (q, tt), tt, (record { ref_ptr = c; now = m }, (n, tt)), (vptr c.0 c.1 ∷ [], (vint w64 n ∷ [], tt))), tt)

  abbrev pub at_counts : Lft → Share → ℕ × ℕ → Meter → ℕ → Counts.Ghost
  at_counts κ q c m n = (((κ, tt), (q, tt), tt, (record { ref_ptr = c; now = m }, (n, tt)), (vptr c.0 c.1 ∷ [], (vint w64 n ∷ [], tt))), tt)

module _ {M : Type 1} {𝓤 : Ura M} (𝓛 : Logic 𝓤) (at_mem : Memory → SProp 𝓤) (run : Routine → Fun 𝓤) (κ : Lft) (q : Share) (c : ℕ × ℕ) (m : Meter) (n : ℕ) where
  open 𝓛 use {H, A}

  pub Refuses-goes : n < 2 ^ 64 → ent 𝓤 (sep 𝓤 (sem 𝓛 (hidden_shr Metered κ m c.0 c.1)) (A.lft κ q)) ((Refuses 𝓛 at_mem run).pre (at_refuses 𝓛 at_mem run κ q c m n))
  Refuses-goes fits =
      qed 𝓛 (‵ (hidden_shr Metered κ m c.0 c.1) ∷ ‵ (flft κ q) ∷ []) ∵
      nothing ! $ flt_i ! n (2 ^ 64) fits $ feq_i ! (List Val) (vint w64 n ∷ []) (vint w64 n ∷ []) refl $ fjoin ! $ fjoin ! $
      move ! (1 ∷ []) $ feq_i ! (List Val) (vptr c.0 c.1 ∷ []) (vptr c.0 c.1 ∷ []) refl $ fjoin ! $ fjoin ! $
      nothing ! $ move ! (2 ∷ []) $ join ! $ join ! $ nothing ! $ move ! (1 ∷ []) $ done !

  pub Refuses-gives : (v : Val) → ent 𝓤 ((Refuses 𝓛 at_mem run).post (at_refuses 𝓛 at_mem run κ q c m n) v) (H.⇛ (ex 𝓤 (λ (y : Bool). guard 𝓤 (v ≡ vbool y) (A.lft κ q))))
  Refuses-gives v =
      qed 𝓛 (raw ((Refuses 𝓛 at_mem run).post (at_refuses 𝓛 at_mem run κ q c m n) v) ∷ []) ∵ updating ! $
      use1 𝓛 (later (some (λ (y : Bool). ((‵ (flft κ q) ⊛ ‵ ftrue) ⊛ ‵ (bool.own_val y (v ∷ []))) ⊛ some (λ (ws : Unit {0} × (Unit {0} × Unit {0})). ‵ (fsep ftrue (fsep ftrue ftrue)) ⊛ ‵ ftrue)))) (id⊢ 𝓤 _) $ await ! tt $ pick ! (λ y.
      split ! $ split ! $ move ! (1 ∷ []) $ feq_l ! (λ e. split ! $ at_once ! $ show ! (λ (z : Bool). guard 𝓤 (v ≡ vbool z) (A.lft κ q)) y $ check ! (ap only e) $ keep ! (0 ∷ []) $ done !))

  pub Counts-goes : n < 2 ^ 64 → ent 𝓤 (sep 𝓤 (sem 𝓛 (hidden_shr Metered κ m c.0 c.1)) (A.lft κ q)) ((Counts 𝓛 at_mem run).pre (at_counts 𝓛 at_mem run κ q c m n))
  Counts-goes fits =
      qed 𝓛 (‵ (hidden_shr Metered κ m c.0 c.1) ∷ ‵ (flft κ q) ∷ []) ∵
      nothing ! $ flt_i ! n (2 ^ 64) fits $ feq_i ! (List Val) (vint w64 n ∷ []) (vint w64 n ∷ []) refl $ fjoin ! $ fjoin ! $
      move ! (1 ∷ []) $ feq_i ! (List Val) (vptr c.0 c.1 ∷ []) (vptr c.0 c.1 ∷ []) refl $ fjoin ! $ fjoin ! $
      nothing ! $ move ! (2 ∷ []) $ join ! $ join ! $ nothing ! $ move ! (1 ∷ []) $ done !

  pub Counts-gives : (v : Val) → ent 𝓤 ((Counts 𝓛 at_mem run).post (at_counts 𝓛 at_mem run κ q c m n) v) (H.⇛ (guard 𝓤 (v ≡ vunit) (A.lft κ q)))
  Counts-gives v =
      qed 𝓛 (raw ((Counts 𝓛 at_mem run).post (at_counts 𝓛 at_mem run κ q c m n) v) ∷ []) ∵ updating ! $
      use1 𝓛 (later (some (λ (r : Unit {0}). ((‵ (flft κ q) ⊛ ‵ ftrue) ⊛ ‵ (unit.own_val r (v ∷ []))) ⊛ some (λ (ws : Unit {0} × (Unit {0} × Unit {0})). ‵ (fsep ftrue (fsep ftrue ftrue)) ⊛ ‵ ftrue)))) (id⊢ 𝓤 _) $ await ! tt $ pick ! (λ r.
      split ! $ split ! $ move ! (1 ∷ []) $ feq_l ! (λ e. split ! $ at_once ! $ check ! (ap only e) $ keep ! (0 ∷ []) $ done !))
