use Rattle.huqmeris_c.proofs.Coded.{coded}
use Rattle.huqmeris_c.proofs.encode.put_encodable.Goals as goal

pub returns : goal.returns
returns c = coded c.args.core.now c.code-made.result c.args.code.now c.put_words.new.code c.word.result c.rest-rest.result.0 c.len-behind.result c.rest-rest.result.1 c.code-made.ensures.encodes c.code-made.ensures.length c.code-made.ensures.is c.len-behind.ensures.is c.word.ensures.bytes c.rest-rest.ensures.few c.rest-rest.ensures.bytes (rw (c.from.ensures, c.from-2.ensures) at c.put_words.ensures)
