use Rattle.std.proofs.Common.{◌∙◌, ap, Ok, Err, refl}
use Rattle.std.proofs.lemmas.Result.{err_from_is_err_and}
use Rattle.cax64_sink.specs.Rest.{long_actions, word_actions}
use Rattle.cax64_sink.specs.Run.{Ran}
use Rattle.cax64_sink.proofs.Rests.{long_put, no_long_put, no_word}
use Rattle.cax64_sink.proofs.Roomier.{ran_is_roomier}
use Rattle.cax64_sink.proofs.Runs.{ran_none, ran_one, ran_append, ran_refused}
use Rattle.cax64_sink.proofs.CodeSink.put_rest.Goals.{in-Some+in_ok-put4, in_default}
use Rattle.cax64_sink.proofs.CodeSink.put_rest.Goals as goal

pub returns-in_err-put4-clause-run : goal.returns-in_err-put4-clause-run
returns-in_err-put4-clause-run g c =
    let p = err_from_is_err_and c.from_residual.result c.from_residual.ensures.1 in
    ran_is_roomier (rw c.in-Some.is (ran_refused (word_actions c.args.imm_len c.args.imm) _ (ran_one c.put4.ensures.step) c.in_err-put4.was (p.1 ∙ ap Err p.2)))

pub returns-then-imm_len-eq1-clause-run : goal.returns-then-imm_len-eq1-clause-run
returns-then-imm_len-eq1-clause-run g c =
    let front : Ran (long_actions c.args.long) (g.Self.CodeSink.state c.args.self.now) (g.Self.CodeSink.state c.match-long.self) (Ok tt) =
    elim c.match-long.branch [ in-Some+in_ok-put4 w ↦ rw w.self-is (long_put w.in-Some.is w.put4.ensures.step w.in_ok-put4.was) | in_default w ↦ rw w.self-is (no_long_put _ w.in_default.is) ] in
    ran_is_roomier (ran_append front refl (rw c.if-imm_len-eq1.true (ran_one c.put1.ensures.step)))

pub returns-then-imm_len-eq2-clause-run : goal.returns-then-imm_len-eq2-clause-run
returns-then-imm_len-eq2-clause-run g c =
    let front : Ran (long_actions c.args.long) (g.Self.CodeSink.state c.args.self.now) (g.Self.CodeSink.state c.match-long.self) (Ok tt) =
    elim c.match-long.branch [ in-Some+in_ok-put4 w ↦ rw w.self-is (long_put w.in-Some.is w.put4.ensures.step w.in_ok-put4.was) | in_default w ↦ rw w.self-is (no_long_put _ w.in_default.is) ] in
    ran_is_roomier (ran_append front refl (rw c.if-imm_len-eq2.true (ran_one c.put2.ensures.step)))

pub returns-then-imm_len-eq4-clause-run : goal.returns-then-imm_len-eq4-clause-run
returns-then-imm_len-eq4-clause-run g c =
    let front : Ran (long_actions c.args.long) (g.Self.CodeSink.state c.args.self.now) (g.Self.CodeSink.state c.match-long.self) (Ok tt) =
    elim c.match-long.branch [ in-Some+in_ok-put4 w ↦ rw w.self-is (long_put w.in-Some.is w.put4.ensures.step w.in_ok-put4.was) | in_default w ↦ rw w.self-is (no_long_put _ w.in_default.is) ] in
    ran_is_roomier (ran_append front refl (rw c.if-imm_len-eq4.true (ran_one c.put4-then-imm_len-eq4.ensures.step)))

pub returns-clause-run : goal.returns-clause-run
returns-clause-run g c =
    let front : Ran (long_actions c.args.long) (g.Self.CodeSink.state c.args.self.now) (g.Self.CodeSink.state c.match-long.self) (Ok tt) =
    elim c.match-long.branch [ in-Some+in_ok-put4 w ↦ rw w.self-is (long_put w.in-Some.is w.put4.ensures.step w.in_ok-put4.was) | in_default w ↦ rw w.self-is (no_long_put _ w.in_default.is) ] in
    let none = no_word c.args.imm c.args.imm_len c.requires c.if-imm_len-eq1.false c.if-imm_len-eq2.false c.if-imm_len-eq4.false in
    ran_is_roomier (ran_append front refl (rw none (ran_none _ _ refl)))
