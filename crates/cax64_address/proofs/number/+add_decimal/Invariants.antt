use Rattle.cax64_address.proofs.number.+add_decimal.Given as goal

abbrev pub decreases-add_decimal : goal.decreases-add_decimal
decreases-add_decimal g l = l.byte
