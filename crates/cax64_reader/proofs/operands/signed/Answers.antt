use Rattle.std.proofs.Common.{◌≡◌, ℕ, zero, suc, ◌-◌, ◌*◌, ◌^◌, ◌%◌, ◌<◌, ◌≤◌, arith, ℤ, pos, ◌-ℤ◌, ◌*ℤ◌, false, w64, to_z, of_z}
use Rattle.std.proofs.lemmas.Int.{ints}
use Rattle.std.specs.Int.Signed.{lt_z}
use Rattle.cax64_machine_code.specs.Fields.{signed_of}
use Rattle.cax64_reader.proofs.Range.{signed_in_range}
use Rattle.cax64_reader.proofs.operands.signed.Goals as goal

-- the upper half of the numbers of so many bytes are the negative ones
negative : (size n : ℕ) (v : ℤ) → 1 ≤ size → size ≤ 4 → n < 256 ^ size → v ≡ pos n → lt_z (to_z w64 (of_z w64 v)) (to_z w64 (1 * 2 ^ (8 * size - 1) % 18446744073709551616)) ≡ false → to_z w64 (of_z w64 (to_z w64 (of_z w64 v) -ℤ to_z w64 (of_z w64 (pos 2 *ℤ to_z w64 (1 * 2 ^ (8 * size - 1) % 18446744073709551616))))) ≡ signed_of size n
negative zero n v l m f e h = absurd (omega arith)
negative (suc zero) n v l m f e h = grind (arith, ints)
negative (suc (suc zero)) n v l m f e h = grind (arith, ints)
negative (suc (suc (suc zero))) n v l m f e h = grind (arith, ints)
negative (suc (suc (suc (suc zero)))) n v l m f e h = grind (arith, ints)
negative (suc (suc (suc (suc (suc size))))) n v l m f e h = absurd (omega arith)

pub returns-else-value-half-clause-value : goal.returns-else-value-half-clause-value
returns-else-value-half-clause-value c = negative c.args.size c.args.n c.from-value.result c.requires.least c.requires.most c.requires.fits c.from-value.ensures c.if-value-half.false

pub returns-else-value-half-clause-range : goal.returns-else-value-half-clause-range
returns-else-value-half-clause-range c = rw (negative c.args.size c.args.n c.from-value.result c.requires.least c.requires.most c.requires.fits c.from-value.ensures c.if-value-half.false) (signed_in_range c.args.size c.args.n c.requires.least c.requires.most c.requires.fits)
