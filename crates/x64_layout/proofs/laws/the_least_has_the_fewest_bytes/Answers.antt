use Rattle.std.proofs.Common.{◌≡◌, ℕ, ◌+◌, ◌≤◌, ◌⊎◌, inl, inr, arith, get_or}
use Rattle.x64_layout.proofs.Places.{places_grow, sum_grows}
use Rattle.x64_layout.proofs.laws.the_least_has_the_fewest_bytes.Goals as goal

long_too : (a b least more : ℕ) {P : Type 0} → a ≤ b → a ≡ least + more → ((b ≡ least) × P) ⊎ (b ≡ least + more) → b ≡ least + more
long_too a b least more le long (inl h) = omega (arith, h.0)
long_too a b least more le long (inr h) = h

pub returns-clause-fewest : goal.returns-clause-fewest
returns-clause-fewest c = λ spans lens other least layout. sum_grows lens other (least.least other layout)

pub returns-clause-earliest : goal.returns-clause-earliest
returns-clause-earliest c = λ spans lens other n least layout. places_grow lens other n (least.least other layout)

pub returns-clause-long : goal.returns-clause-long
returns-clause-long c = λ spans lens other n s least layout is long.
    long_too (get_or lens n 0) (get_or other n 0) s.least s.more (least.least other layout n) long (layout.each n s is)
