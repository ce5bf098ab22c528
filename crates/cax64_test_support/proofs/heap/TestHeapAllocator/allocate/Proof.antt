-- A refused request gets `Err`. Any other gets what the inner allocator answers, and what was handed out is counted.
-- Assumes `Logic`.
use Rattle.std.proofs.Common.{◌≡◌, ℕ, ◌+◌, ◌^◌, ◌<◌, Bool, true, false, [], ◌∷◌, Ok, Err, refl, w64, Bor}
use seplogic.Ra.Ura.{Ura}
use mir.Syntax.{Ty, Args, Fn, Body, a_type, dnil, dcons}
use mir.Val.{Val, vunit, vbool, vint, vptr}
use mir.MapTy.{inst_fn}
use base.Logic.{SProp, ent, id⊢}
use base.Fml.{Lft, Share, ftrue, fsep, froom, flft}
use prog.Memory.{Memory, size, align, capped, up}
use prog.Routine.{Routine}
use prog.Wp.{Env, Wp, WpFn, Tables, after_seq, at_return}
use types.Logic.{Logic}
use contract.BorrowLft.{◌⊑◌, ⊑_trans}
use contract.Monad.{Fun, fact}
use contract.Running.{tables, tables_of}
use sound.WpLaws.{fm_of, WpFn-mono}
use types.Kit.{Item, ‵, raw, ◌⊛◌, ⋆, some, later, given, at_ret, any_q, Post as After, ◌$◌, ◌∵◌, !, qed, by, move, keep, use0, use1, use2, split, join, pick, learn, fsplit, fjoin, suffices, await, done}
use types.Part.{whole, agg}
use types.Match.{vrt, in_variant}
use types.Run.{stop, fld, addr, lit, no_more, and_then, of_opd, first, branches, skips, switches_on, exec, returns, returns_within, enter}
use types.ByLocal.{alloc_all, pass_all, free_all, look_at, get, get_in, get_tag, through, sets, sets_last, lands_as, env}
use denote.Exit.{yes}
use denote.RattleType.{owns}
use denote.Ref.{shr_vals}
use denote.Memory.{hidden_shr}
use denote.Opens.{unhide, shr_dup}
use denote.Param.{bounded, param}
use denote.Plain.{uint_vals, uint_Tells}
use denote.RawPtr.{block_ptr}
use denote.Builtin.{usize, RefOf}
use denote.Signature.{Slot, plain, types_at}
use denote.Steps.{heard, nothing}
use denote.Triple.Call.{calls_at}
use denote.Triple.Clauses.{Ended, Clauses}
use denote.Triple.Spec.{triple_of}
use denote.Triple.Statement.{Triple}
use denote.Triple.Table.{entered, cited}
use denote.Triple.Walked.{Stays, stay_dropped, walk_of, ends_at, walked, Goes-dropped, walk_Meets}
use Rattle.std.proofs.alloc.Shapes.{after, front, arm_body}
use Rattle.std.proofs.alloc.Calls.{Al, α, seen, token, Answer, answer_val, Answer-typed, Answer-Ok, Answer-err, takes_key, Takes, at_takes, Answered, Takes-goes, Takes-gives, answers}
use Rattle.cax64_test_support.specs.declared.heap.Meter.{Meter}
use Rattle.cax64_test_support.specs.contracts.heap.TestHeap as heap
use Rattle.cax64_test_support.proofs.Meters.{Metered, Refuses, at_refuses, Refuses-goes, Refuses-gives, Counts, at_counts, Counts-goes, Counts-gives}
use Rattle.cax64_test_support.proofs.heap.Meter.TheLaws as meter_laws
use Rattle.cax64_test_support.proofs.heap.refuses.Symbol as refuses_symbol
use Rattle.cax64_test_support.proofs.heap.refuses.Met as refuses_met
use Rattle.cax64_test_support.proofs.heap.hold.Symbol as hold_symbol
use Rattle.cax64_test_support.proofs.heap.hold.Met as hold_met
use Rattle.cax64_test_support.specs.contracts.heap.TestHeapAllocator.allocate as F
use Rattle.cax64_test_support.specs.contracts.heap.TestHeapAllocator.allocate.Key as key
use Rattle.cax64_test_support.proofs.heap.TestHeapAllocator.allocate.Statement as stated
use Rattle.cax64_test_support.proofs.heap.TestHeapAllocator.allocate.Code as code

module _ (Z : Al) where
  abbrev args : Args
  args = bounded (a_type ∷ []) (Z.row, tt) (dcons Z.d (dcons Z.drops dnil))

  abbrev here : Fn
  here = inst_fn args code.function

  abbrev self : Slot 2
  self = RefOf (0 ∷ []) tt (plain (λ _. heap.the_row (param 0 Z.row))) (λ _. tt)

  abbrev ended : Ended
  ended = F.ended Z.row Z.g Z.d Z.drops

  abbrev stayed : Stays ended.signature.params ended.kept
  stayed = (stay_dropped self yes, (stay_dropped (plain (λ _. usize)) yes, (stay_dropped (plain (λ _. usize)) yes, tt)))

module _ (Z : Al) {M : Type 1} {𝓤 : Ura M} (𝓛 : Logic 𝓤) (at_mem : Memory → SProp 𝓤) (run : Routine → Fun 𝓤) (𝓣 : Tables 𝓤 𝓛.H)
    (tk : Triple 𝓤 (𝓣.C (takes_key Z)) (Takes Z 𝓛 at_mem run)) (rf : Triple 𝓤 (𝓣.C refuses_symbol.name) (Refuses 𝓛 at_mem run)) (hd : Triple 𝓤 (𝓣.C hold_symbol.name) (Counts 𝓛 at_mem run)) where
  open 𝓛 use {H}

  abbrev clauses : Clauses 𝓤 (ended Z)
  clauses = F.clauses Z.row Z.g Z.d Z.drops 𝓛 at_mem run

  module _ (κ₁ κ₂ : Lft) (q₁ q₂ : Share) (inn : κ₁ ⊑ κ₂) (r : Bor (heap.the_row Z.row).Denot) (n a : ℕ) (τ : Ty) where
    abbrev bound : (walk_of 𝓛 (ended Z) (stayed Z) clauses).Ghost
    bound = (((κ₁, (κ₂, tt)), (q₁, (q₂, tt)), (inn, tt), (r, (n, (a, tt))), (shr_vals r, (vint w64 n ∷ [], (vint w64 a ∷ [], tt)))), τ)

    abbrev Post : Val → SProp 𝓤
    Post = (walk_of 𝓛 (ended Z) (stayed Z) clauses).post bound

    abbrev outer : Item 𝓤
    outer = ‵ (flft κ₂ q₂) ⊛ ‵ ftrue

    exits_ok : (b o : ℕ) → ent 𝓤 (⋆ 𝓛 (‵ (fsep (froom τ b o) (token Z r.now.inner τ (block_ptr b o))) ∷ ‵ (flft κ₁ q₁) ∷ outer ∷ [])) (Post (answer_val true b o))
    exits_ok b o = qed 𝓛 (‵ (fsep (froom τ b o) (token Z r.now.inner τ (block_ptr b o))) ∷ ‵ (flft κ₁ q₁) ∷ outer ∷ []) ∵
        suffices ! _ (ends_at 𝓛 (ended Z) (stayed Z) clauses bound (answer_val true b o) (Ok (block_ptr b o)) (tt, (tt, (tt, tt))) (tt, (tt, (tt, tt)))) $
        use0 𝓛 (‵ (Answer.own_val (Ok (block_ptr b o)) (answer_val true b o ∷ []))) (Answer-Ok 𝓛 b o) $
        nothing ! $ nothing ! $ fjoin ! $ nothing ! $ fjoin ! $ nothing ! $ fjoin ! $ join ! $ move ! (2 ∷ 3 ∷ []) $ join ! $ join ! $ done !

    exits_err : ent 𝓤 (⋆ 𝓛 (‵ (flft κ₁ q₁) ∷ outer ∷ [])) (Post (answer_val false 0 0))
    exits_err = qed 𝓛 (‵ (flft κ₁ q₁) ∷ outer ∷ []) ∵ nothing ! $
        suffices ! _ (ends_at 𝓛 (ended Z) (stayed Z) clauses bound (answer_val false 0 0) (Err (record {})) (tt, (tt, (tt, tt))) (tt, (tt, (tt, tt)))) $
        use0 𝓛 (‵ (Answer.own_val (Err (record {})) (answer_val false 0 0 ∷ []))) (Answer-err 𝓛) $
        nothing ! $ nothing ! $ fjoin ! $ nothing ! $ fjoin ! $ nothing ! $ fjoin ! $ join ! $ move ! (2 ∷ 3 ∷ []) $ join ! $ join ! $ done !

    walk : n < 2 ^ 64 → a < 2 ^ 64 → ent 𝓤 ((walk_of 𝓛 (ended Z) (stayed Z) clauses).pre bound) (WpFn 𝓤 H 𝓣.C 𝓣.Λ (here Z) (vptr r.ref_ptr.0 r.ref_ptr.1 ∷ vint w64 n ∷ vint w64 a ∷ []) Post)
    walk fn fa =
        let h : Z.row.Denot = r.now.inner in
        let m : Meter = r.now.meter in
        let p : ℕ × ℕ = (r.ref_ptr.0, r.ref_ptr.1 + up (align (α Z)) 0) in
        let c : ℕ × ℕ = (r.ref_ptr.0, r.ref_ptr.1 + up 8 (up (align (α Z)) 0 + size (α Z))) in
        let y : (Takes Z 𝓛 at_mem run).Ghost = at_takes Z 𝓛 at_mem run κ₁ q₁ p h n a τ in
        let Said : Type 0 = (capped (size τ) ≡ n) × (capped (align τ) ≡ a) in
        qed 𝓛 (((‵ (flft κ₁ q₁) ⊛ outer) ⊛ ‵ (owns (types_at (ended Z).signature.params bound.0.0) bound.0.3 bound.0.4)) ∷ (raw (fact 𝓤 (κ₂ ⊑ Z.row.lives)) ⊛ raw (fact 𝓤 Said)) ∷ []) ∵
        move ! (1 ∷ []) $ split ! $ heard ! (κ₂ ⊑ Z.row.lives) (λ le. heard ! Said (λ said.
        split ! $ split ! $ move ! (2 ∷ []) $ fsplit ! $ fsplit ! $ move ! (1 ∷ []) $ unhide ! $ fsplit ! $ fsplit ! $ use1 𝓛 (‵ (seen Z κ₁ p h)) (id⊢ 𝓤 _) $ move ! (1 ∷ []) $ fsplit ! $ keep ! (0 ∷ 6 ∷ 2 ∷ 7 ∷ []) $
        use1 𝓛 (‵ (hidden_shr Metered κ₁ m c.0 c.1)) (id⊢ 𝓤 _) $ shr_dup ! Metered meter_laws.the_row_laws.shr_laws m c.0 c.1 κ₁ $ move ! (0 ∷ 2 ∷ []) $
        -- [the meter; κ₁'s token; the meter again; the handle; κ₂'s token]
        enter ! 𝓣.C 𝓣.Λ (here Z) (vptr r.ref_ptr.0 r.ref_ptr.1 ∷ vint w64 n ∷ vint w64 a ∷ []) _ $ alloc_all ! (λ l. pass_all ! refl ((tt, tt), ((tt, record { fits = fn }), ((tt, record { fits = fa }), tt))) $
        let En : Env 𝓤 H = env (here Z).locals l in
        let Then : After 𝓤 H = any_q (after_seq 𝓤 H (Wp 𝓤 H 𝓣.C 𝓣.Λ En (after 6 (here Z).body) (at_return 𝓤 H En Post)) (at_return 𝓤 H En Post)) in
        let both : Body = front (after 5 (here Z).body) in
        sets ! (addr ! (through ! refl (fld ! refl (stop !)))) refl (tt, tt) $
        use2 𝓛 (raw ((Refuses 𝓛 at_mem run).pre (at_refuses 𝓛 at_mem run κ₁ q₁ c m n))) (Refuses-goes 𝓛 at_mem run κ₁ q₁ c m n fn) $
        calls_at ! (fm_of 𝓤 H 𝓛.laws 𝓣) (Refuses 𝓛 at_mem run) rf (at_refuses 𝓛 at_mem run κ₁ q₁ c m n) (and_then ! (get ! refl) (and_then ! (get ! refl) (no_more !))) (λ u.
        use1 𝓛 (later (some (λ (z : Bool). given (u ≡ vbool z) (‵ (flft κ₁ q₁))))) (Refuses-gives 𝓛 at_mem run κ₁ q₁ c m n u) $ await ! tt $ pick ! (λ z. learn ! (λ eu. lands_as ! eu refl (tt, tt) $
        -- [κ₁'s token; the meter; the handle; κ₂'s token]
        first ! $ branches ! (get ! refl)
        (λ refused. sets ! (agg ! (no_more !)) refl (tt, tt) $
        sets ! (agg ! (and_then ! (lit ! tt) (and_then ! (get ! refl) (no_more !)))) refl (Answer-typed false 0 0) $
        returns_within ! Post refl (look_at ! 0 refl) $ free_all ! refl $
        keep ! (0 ∷ 3 ∷ []) $ by ! exits_err)
        (λ granted. skips ! $ exec ! 𝓣.C 𝓣.Λ En (after 3 (here Z).body) (at_ret En Post) $
        move ! (2 ∷ []) $ sets ! (addr ! (through ! refl (fld ! refl (stop !)))) refl (tt, tt) $
        use2 𝓛 (raw ((Takes Z 𝓛 at_mem run).pre y)) (Takes-goes Z 𝓛 at_mem run κ₁ q₁ p h (⊑_trans κ₁ κ₂ Z.row.lives inn le) n a τ said.0 said.1 fn fa) $
        calls_at ! (fm_of 𝓤 H 𝓛.laws 𝓣) (Takes Z 𝓛 at_mem run) tk y (and_then ! (get ! refl) (and_then ! (get ! refl) (and_then ! (get ! refl) (no_more !)))) (λ v.
        use1 𝓛 (later (raw (Answered Z 𝓛 at_mem run h τ v) ⊛ ‵ (flft κ₁ q₁))) (Takes-gives Z 𝓛 at_mem run κ₁ q₁ p h n a τ v) $ await ! tt $ split ! $
        answers Z ! at_mem run h τ v
        -- [room; what lets it go back; κ₁'s token; the meter; κ₂'s token]
        (λ b o e. lands_as ! e refl (Answer-typed true b o) $
        first ! $ switches_on ! (get_tag ! (vrt ! refl (fld ! refl (stop !))) (whole !)) $ exec ! 𝓣.C 𝓣.Λ En (arm_body 0 both) Then $
        sets ! (of_opd ! (get_in ! (vrt ! refl (fld ! refl (stop !))) (in_variant ! 0 0 refl refl (whole !)))) refl (tt, tt) $
        sets ! (addr ! (through ! refl (fld ! refl (stop !)))) refl (tt, tt) $ move ! (3 ∷ 2 ∷ []) $
        use2 𝓛 (raw ((Counts 𝓛 at_mem run).pre (at_counts 𝓛 at_mem run κ₁ q₁ c m n))) (Counts-goes 𝓛 at_mem run κ₁ q₁ c m n fn) $
        calls_at ! (fm_of 𝓤 H 𝓛.laws 𝓣) (Counts 𝓛 at_mem run) hd (at_counts 𝓛 at_mem run κ₁ q₁ c m n) (and_then ! (get ! refl) (and_then ! (get ! refl) (no_more !))) (λ w.
        use1 𝓛 (later (given (w ≡ vunit) (‵ (flft κ₁ q₁)))) (Counts-gives 𝓛 at_mem run κ₁ q₁ c m n w) $ await ! tt $ learn ! (λ ew. lands_as ! ew refl (tt, tt) $
        sets_last ! (agg ! (and_then ! (lit ! tt) (and_then ! (get ! refl) (no_more !)))) refl (Answer-typed true b o) $
        exec ! 𝓣.C 𝓣.Λ En (after 6 (here Z).body) (at_ret En Post) $ sets ! (of_opd ! (get ! refl)) refl (Answer-typed true b o) $ returns ! (look_at ! 0 refl) $ free_all ! refl $
        move ! (1 ∷ 2 ∷ []) $ fjoin ! $ by ! (exits_ok b o))))
        -- [κ₁'s token; the meter; κ₂'s token]
        (λ e. lands_as ! e refl (Answer-typed false 0 0) $
        first ! $ switches_on ! (get_tag ! (vrt ! refl (fld ! refl (stop !))) (whole !)) $ exec ! 𝓣.C 𝓣.Λ En (arm_body 1 both) Then $
        sets ! (of_opd ! (get_in ! (vrt ! refl (fld ! refl (stop !))) (in_variant ! 1 0 refl refl (whole !)))) refl (tt, tt) $
        sets_last ! (agg ! (and_then ! (lit ! tt) (and_then ! (get ! refl) (no_more !)))) refl (Answer-typed false 0 0) $
        exec ! 𝓣.C 𝓣.Λ En (after 6 (here Z).body) (at_ret En Post) $ sets ! (of_opd ! (get ! refl)) refl (Answer-typed false 0 0) $ returns ! (look_at ! 0 refl) $ free_all ! refl $
        keep ! (0 ∷ 2 ∷ []) $ by ! exits_err)))))))))

pub allocate_spec : {M : Type 1} → stated.statement M
unfolding tables_of
allocate_spec 𝓤 𝓛 𝓜 𝓡 wired Y L g d d' met _ =
    let Z : Al = record { row = Y; laws = L; g = g; d = d; drops = d' } in
    let 𝓣 : Tables 𝓤 𝓛.H = tables_of 𝓤 𝓛.H 𝓜 (tables 𝓤 𝓛.H 𝓜 𝓡 𝓡.env) in
    let c = F.clauses Y g d d' 𝓛 𝓜.mem 𝓡.returns in
    entered 𝓤 𝓛.H (triple_of 𝓛 (F.signature Y) (F.spec Y g d d' 𝓛 𝓜.mem 𝓡.returns)) 𝓣.C 𝓣.Λ (key.name (args Z)) (here Z) (code.unfolded 𝓤 𝓛.H 𝓜 𝓡 wired (Y, tt) d d')
    (walk_Meets 𝓛 (ended Z) (stayed Z) (Goes-dropped 𝓛 2 (self Z) yes (λ κs x f. refl), (Goes-dropped 𝓛 2 (plain (λ _. usize)) yes (λ κs x f. refl), (Goes-dropped 𝓛 2 (plain (λ _. usize)) yes (λ κs x f. refl), tt))) c (WpFn 𝓤 𝓛.H 𝓣.C 𝓣.Λ (here Z)) (WpFn-mono 𝓤 𝓛.H 𝓛.laws 𝓣 (here Z))
    (walked 𝓛 (ended Z) (stayed Z) c (WpFn 𝓤 𝓛.H 𝓣.C 𝓣.Λ (here Z)) (λ κs. (shr_vals, (uint_vals w64, (uint_vals w64, tt)))) (λ κs. ((λ r vs s. s.0), (uint_Tells w64, (uint_Tells w64, tt))))
    (λ κs qs bounds a τ are. walk Z 𝓛 𝓜.mem 𝓡.returns 𝓣 (met.allocate d')
    (cited 𝓤 𝓛.H _ 𝓜 𝓡 𝓡.env refuses_symbol.name (𝓡.env refuses_symbol.name) refl (refuses_met.met 𝓤 𝓛 𝓜 𝓡 (code.calls-cax64_test_support::heap::refuses 𝓡.env wired)))
    (cited 𝓤 𝓛.H _ 𝓜 𝓡 𝓡.env hold_symbol.name (𝓡.env hold_symbol.name) refl (hold_met.met 𝓤 𝓛 𝓜 𝓡 (code.calls-cax64_test_support::heap::hold 𝓡.env wired)))
    κs.0 κs.1.0 qs.0 qs.1.0 bounds.0 a.0 a.1.0 a.1.1.0 τ are.1.0.1 are.1.1.0.1)))
