use Rattle.cax64_machine_code.specs.Rows.{line_of}
use Rattle.cax64_shortest.proofs.worked.least_lengths.Goals as goal

pub returns-clause-bare : goal.returns-clause-bare
unfolding line_of
returns-clause-bare c bytes reading hb h same =
    c.len_is_least.ensures.no_shorter _ bytes reading hb h same

pub returns-clause-digit : goal.returns-clause-digit
unfolding line_of
returns-clause-digit c bytes reading hb h same =
    c.len_is_least.ensures.no_shorter _ bytes reading hb h same

pub returns-clause-sil : goal.returns-clause-sil
unfolding line_of
returns-clause-sil c bytes reading hb h same =
    c.len_is_least.ensures.no_shorter _ bytes reading hb h same

pub returns-clause-two_bytes : goal.returns-clause-two_bytes
unfolding line_of
returns-clause-two_bytes c bytes reading hb h same =
    c.len_is_least.ensures.no_shorter _ bytes reading hb h same

pub returns-clause-three_bytes : goal.returns-clause-three_bytes
unfolding line_of
returns-clause-three_bytes c bytes reading hb h same =
    c.len_is_least.ensures.no_shorter _ bytes reading hb h same
