use Rattle.x64_code_buffer.proofs.Pieces.{filled_is_laid, laid_is_filled, laid_out_is_finished}
use Rattle.x64_code_buffer.proofs.laws.what_is_filled_is_laid_out.Goals as goal

pub returns-clause-filled : goal.returns-clause-filled
returns-clause-filled c readings n s places = (filled_is_laid readings n s places, laid_is_filled readings n s places)

pub returns-clause-finished : goal.returns-clause-finished
returns-clause-finished c readings n s places code h = laid_out_is_finished readings n s places code h
