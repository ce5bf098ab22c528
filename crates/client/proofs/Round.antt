use Rattle.std.proofs.Common.{◌≡◌, ◌∙◌, ap, sym, subst, refl, arith, ℕ, ◌+◌, ℤ, pos, ◌+ℤ◌, ◌-ℤ◌, Bool, true, false, Option, Some, None, List, [], ◌∷◌, ◌++◌, append-nil, length, take, drop}
use Rattle.std.specs.Prelude.{IfSome, if◌then◌else◌, is_some, option_and_then}
use Rattle.std.proofs.lemmas.Int.{ints}
use Rattle.std.proofs.lemmas.List.{length-drop}
use Rattle.std.proofs.Math.Seq.{take-length}
use Rattle.std.proofs.lemmas.Option.{same_Some}
use Rattle.cranelift_assembler_x64.specs.Relative.{relative_in}
use Rattle.cranelift_assembler_x64.specs.MachineAddress.{modulo_64_bits}
use Rattle.cranelift_assembler_x64.specs.Len.{len_of}
use Rattle.cranelift_assembler_x64.specs.ReadLine.{LineReading}
use Rattle.cranelift_assembler_x64.specs.Rows.{line_of}
use Rattle.cranelift_assembler_x64.specs.declared.reader.Place.{Place}
use Rattle.cranelift_assembler_x64.specs.declared.reader.Place.TheVariants.{Reg, Mem, Rip}
use Rattle.cranelift_assembler_x64.specs.Sink.{State}
use Rattle.cranelift_assembler_x64.specs.declared.DeferredTarget.{DeferredTarget}
use Rattle.cranelift_assembler_x64.specs.declared.DeferredTarget.TheVariants as target
use Rattle.cranelift_assembler_x64.specs.declared.Label.{Label}
use Rattle.cranelift_assembler_x64.specs.declared.Notice.{Notice}
use Rattle.cranelift_assembler_x64.specs.declared.Notice.TheVariants.{Trap, Target}
use Rattle.cranelift_assembler_x64.specs.declared.Amode.{Amode}
use Rattle.cranelift_assembler_x64.specs.Notices.{notices_of}
use Rattle.cranelift_assembler_x64.specs.declared.reader.Reading.{Reading}
use Rattle.x64_code_buffer.specs.Filled.{places_told, uses_behind}
use Rattle.x64_code_buffer.specs.Jump.{fits_i8, if_i8, jump_parts, near_distance, short_row}
use Rattle.x64_code_buffer.specs.declared.jump.Jump.{Jump}
use Rattle.x64_code_buffer.specs.declared.jump.Jump.TheVariants.{Always}
use Rattle.x64_code_buffer.specs.Laid.{EachSettled, JumpsTo, LaidOut, LineSettledAs, LinesRead, led_to, open_jump, whole}
use Rattle.x64_code_buffer.specs.Use.{Use, uses_of}
use Rattle.client.specs.Rounds.{GoesRound}

-- A place that isn't relative has no use, and stays.

no_use : (o : Option Place) (us : List Use) → relative_in o ≡ None → uses_behind o us ≡ us
no_use None us h = refl
no_use (Some (Reg view)) us h = refl
no_use (Some (Mem base index disp)) us h = refl
no_use (Some (Rip disp)) us h = cc

stays_read : (places : DeferredTarget → Option ℕ) (end : ℕ) (r q : LineReading) (o : Option Place) (us : List Use) → relative_in o ≡ None → LineSettledAs places end r o us q → q ≡ r
stays_read places end r q None us h k = k
stays_read places end r q (Some (Reg view)) us h k = k
stays_read places end r q (Some (Mem base index disp)) us h k = k
stays_read places end r q (Some (Rip disp)) us h k = cc

jump_length : (places : DeferredTarget → Option ℕ) (t : DeferredTarget) (end : ℕ) (r q : LineReading) → JumpsTo places t end r q → q.length ≡ r.length
jump_length places t end r q h = ap (λ (z : LineReading). z.length) h.same

jump_leads : (places : DeferredTarget → Option ℕ) (t : DeferredTarget) (end place : ℕ) (r q : LineReading) → JumpsTo places t end r q → places t ≡ Some place → led_to q.imm end ≡ Some (modulo_64_bits (pos place))
jump_leads places t end place r q h bound = h.leads ∙ ap (λ (n : ℕ). Some (modulo_64_bits (pos n))) (same_Some _ _ (sym h.is_bound ∙ bound))

-- The jumps of a loop lead to its labels, once they are settled.

last_settled : (places : DeferredTarget → Option ℕ) (top : Label) (b at : ℕ) (r3 : LineReading) (now : List LineReading) → EachSettled places at (open_jump r3 ∷ []) ((b, target.Label top) ∷ []) now → (q : LineReading) × (now ≡ q ∷ []) × JumpsTo places (target.Label top) (at + r3.length) r3 q
last_settled places top b at r3 [] h = absurd h
last_settled places top b at r3 (q ∷ later) h = (q, ap (λ (z : List LineReading). q ∷ z) h.1, h.0)

round_of : (places : DeferredTarget → Option ℕ) (top end : Label) (a b : ℕ) (r1 r2 r3 : LineReading) (now : List LineReading) (code : List ℕ) → relative_in r2.place ≡ None → places (target.Label end) ≡ Some (length code) → places (target.Label top) ≡ Some 0 → LinesRead now code → EachSettled places 0 (open_jump r1 ∷ whole r2 ∷ open_jump r3 ∷ []) ((a, target.Label end) ∷ (b, target.Label top) ∷ []) now → GoesRound code
round_of places top end a b r1 r2 r3 [] code plain end_at top_at reads h = absurd h
round_of places top end a b r1 r2 r3 (q1 ∷ []) code plain end_at top_at reads h = absurd h.1
round_of places top end a b r1 r2 r3 (q1 ∷ q2 ∷ now) code plain end_at top_at reads h =
    let us : List Use = (b, target.Label top) ∷ [] in
    let at : ℕ = 0 + r1.length + r2.length in
    let settled : EachSettled places at (open_jump r3 ∷ []) us now = subst (λ (z : List Use). EachSettled places at (open_jump r3 ∷ []) z now) (no_use r2.place us plain) h.1.1 in
    let last = last_settled places top b at r3 now settled in
    let q3 : LineReading = last.0 in
    let same : q2 ≡ r2 = stays_read places at r2 q2 r2.place us plain h.1.0 in
    let len1 : q1.length ≡ r1.length = jump_length places (target.Label end) (0 + r1.length) r1 q1 h.0 in
    let len2 : q2.length ≡ r2.length = ap (λ (z : LineReading). z.length) same in
    let len3 : q3.length ≡ r3.length = jump_length places (target.Label top) (at + r3.length) r3 q3 last.2 in
    let first_end : 0 + r1.length ≡ q1.length = omega (arith, len1) in
    let last_end : at + r3.length ≡ q1.length + q2.length + q3.length = omega (arith, len1, len2, len3) in
    record {
      out = q1;
      body = q2;
      back = q3;
      reads = subst (λ (z : List LineReading). LinesRead (q1 ∷ q2 ∷ z) code) last.1 reads;
      leaves = ap (led_to q1.imm) (sym first_end) ∙ jump_leads places (target.Label end) (0 + r1.length) (length code) r1 q1 h.0 end_at;
      returns = ap (led_to q3.imm) (sym last_end) ∙ jump_leads places (target.Label top) (at + r3.length) 0 r3 q3 last.2 top_at;
    }

pub goes_round : (places : DeferredTarget → Option ℕ) (top end : Label) (a b n : ℕ) (r1 r2 r3 : LineReading) (s : State) (code : List ℕ) → relative_in r2.place ≡ None → n ≡ length code → places (target.Label end) ≡ Some n → places (target.Label top) ≡ Some 0 → uses_of s.notices ≡ (a, target.Label end) ∷ (b, target.Label top) ∷ [] → LaidOut (open_jump r1 ∷ whole r2 ∷ open_jump r3 ∷ []) n s places code → GoesRound code
goes_round places top end a b n r1 r2 r3 s code plain len end_at top_at uses h =
    let all : take n code ≡ code = ap (λ (k : ℕ). take k code) len ∙ take-length code in
    round_of places top end a b r1 r2 r3 h.now code plain (end_at ∙ ap (λ (k : ℕ). Some k) len) top_at
    (subst (λ (z : List ℕ). LinesRead h.now z) all h.reads)
    (subst (λ (z : List Use). EachSettled places 0 (open_jump r1 ∷ whole r2 ∷ open_jump r3 ∷ []) z h.now) uses h.settled)

-- A jump back that two bytes reach has its distance at once, and no use.

three_lengths : (a b c : LineReading) (code : List ℕ) → LinesRead (a ∷ b ∷ c ∷ []) code → length code ≡ a.length + b.length + c.length
three_lengths a b c code h =
    let n1 : List ℕ = drop a.length code in
    let n2 : List ℕ = drop b.length n1 in
    let none : length (drop c.length n2) ≡ 0 = ap length h.3.3.3 in
    omega (arith, h.2, h.3.2, h.3.3.2, none, length-drop a.length code, length-drop b.length n1, length-drop c.length n2)

near_round : (places : DeferredTarget → Option ℕ) (end : Label) (a : ℕ) (d : ℤ) (r1 r2 r3 : LineReading) (now : List LineReading) (code : List ℕ) → relative_in r2.place ≡ None → relative_in r3.place ≡ None → r3.imm ≡ Some d → led_to (Some d) (length code) ≡ Some (modulo_64_bits (pos 0)) → places (target.Label end) ≡ Some (length code) → LinesRead now code → EachSettled places 0 (open_jump r1 ∷ whole r2 ∷ whole r3 ∷ []) ((a, target.Label end) ∷ []) now → GoesRound code
near_round places end a d r1 r2 r3 [] code plain bare imm led end_at reads h = absurd h
near_round places end a d r1 r2 r3 (q1 ∷ []) code plain bare imm led end_at reads h = absurd h.1
near_round places end a d r1 r2 r3 (q1 ∷ q2 ∷ []) code plain bare imm led end_at reads h = absurd h.1.1
near_round places end a d r1 r2 r3 (q1 ∷ q2 ∷ q3 ∷ now) code plain bare imm led end_at reads h =
    let same : q3 ≡ r3 = stays_read places _ r3 q3 r3.place _ bare h.1.1.0 in
    let alone : now ≡ [] = h.1.1.1 in
    let all : LinesRead (q1 ∷ q2 ∷ q3 ∷ []) code = subst (λ (z : List LineReading). LinesRead (q1 ∷ q2 ∷ q3 ∷ z) code) alone reads in
    let len1 : q1.length ≡ r1.length = jump_length places (target.Label end) (0 + r1.length) r1 q1 h.0 in
    let first_end : 0 + r1.length ≡ q1.length = omega (arith, len1) in
    record {
      out = q1;
      body = q2;
      back = q3;
      reads = all;
      leaves = ap (led_to q1.imm) (sym first_end) ∙ jump_leads places (target.Label end) (0 + r1.length) (length code) r1 q1 h.0 end_at;
      returns = ap (led_to q3.imm) (sym (three_lengths q1 q2 q3 code all)) ∙ ap (λ (o : Option ℤ). led_to o (length code)) (ap (λ (z : LineReading). z.imm) same ∙ imm) ∙ led;
    }

pub goes_round_near : (places : DeferredTarget → Option ℕ) (end : Label) (a n : ℕ) (d : ℤ) (r1 r2 r3 : LineReading) (s : State) (code : List ℕ) → relative_in r2.place ≡ None → relative_in r3.place ≡ None → r3.imm ≡ Some d → n ≡ length code → led_to (Some d) n ≡ Some (modulo_64_bits (pos 0)) → places (target.Label end) ≡ Some n → uses_of s.notices ≡ (a, target.Label end) ∷ [] → LaidOut (open_jump r1 ∷ whole r2 ∷ whole r3 ∷ []) n s places code → GoesRound code
goes_round_near places end a n d r1 r2 r3 s code plain bare imm len led end_at uses h =
    let all : take n code ≡ code = ap (λ (k : ℕ). take k code) len ∙ take-length code in
    near_round places end a d r1 r2 r3 h.now code plain bare imm (ap (led_to (Some d)) (sym len) ∙ led) (end_at ∙ ap (λ (k : ℕ). Some k) len)
    (subst (λ (z : List ℕ). LinesRead h.now z) all h.reads)
    (subst (λ (z : List Use). EachSettled places 0 (open_jump r1 ∷ whole r2 ∷ whole r3 ∷ []) z h.now) uses h.settled)

-- The distance of a jump back to the beginning.

pub either : {P : Type 0} (o : Option ℤ) → (o ≡ None → P) → ((d : ℤ) → o ≡ Some d → P) → P
either None f g = f refl
either (Some d) f g = g d refl

pub at_some : (P : ℤ → Type 0) (o : Option ℤ) (d : ℤ) → o ≡ Some d → IfSome o P → P d
at_some P None d e h = cc
at_some P (Some z) d e h = subst P (same_Some z d e) h

if_is : (z d : ℤ) (b : Bool) → (if b then Some z else None) ≡ Some d → d ≡ z
if_is z d true h = sym (same_Some z d h)
if_is z d false h = cc

pub leads_back : (o : Option ℕ) (here : ℕ) (d : ℤ) → o ≡ Some 0 → near_distance Always o here ≡ Some d → led_to (Some d) (here + 2) ≡ Some (modulo_64_bits (pos 0))
leads_back o here d top h =
    let z : ℤ = pos 0 -ℤ pos (here + 2) in
    let near : if_i8 z ≡ Some d = ap (λ (p : Option ℕ). near_distance Always p here) (sym top) ∙ h in
    let is : d ≡ z = if_is z d (fits_i8 z) near in
    let sum : pos (here + 2) +ℤ d ≡ pos 0 = omega (arith, ints, is) in
    ap (λ (y : ℤ). Some (modulo_64_bits y)) sum

pub none_near : (jump : Jump) (o : Option ℕ) (here : ℕ) → o ≡ None → near_distance jump o here ≡ None
none_near jump o here e = ap (λ (p : Option ℕ). near_distance jump p here) e ∙ by_form (is_some (short_row jump)) (λ (p : ℕ). if_i8 (pos p -ℤ pos (here + 2)))
  where
    by_form : (b : Bool) (f : ℕ → Option ℤ) → (if b then option_and_then f None else None) ≡ None
    by_form true f = refl
    by_form false f = refl

pub near_len : (d : ℤ) → IfSome (short_row Always) (λ row. len_of (jump_parts row d) ≡ 2)
unfolding line_of
near_len d = refl

-- The uses of a loop's labels.

no_places : (us : List Use) → places_told us ≡ [] → us ≡ []
no_places [] h = refl
no_places (used ∷ us) h = cc

uses_more : (ns ms : List Notice) → uses_of (ns ++ ms) ≡ uses_of ns ++ uses_of ms
uses_more [] ms = refl
uses_more (Trap at code ∷ ns) ms = uses_more ns ms
uses_more (Target at t ∷ ns) ms = ap (λ (z : List Use). (at, t) ∷ z) (uses_more ns ms)

pub two_uses : (n0 n1 n2 n3 more : List Notice) (k1 k3 : ℕ) (e t : DeferredTarget) → places_told (uses_of n0) ≡ [] → n1 ≡ n0 ++ Target k1 e ∷ [] → n2 ≡ n1 ++ more → more ≡ [] → n3 ≡ n2 ++ Target k3 t ∷ [] → uses_of n3 ≡ (k1, e) ∷ (k3, t) ∷ []
two_uses n0 n1 n2 n3 more k1 k3 e t none first second plain third =
    let u1 : uses_of n1 ≡ (k1, e) ∷ [] = ap uses_of first ∙ uses_more n0 (Target k1 e ∷ []) ∙ ap (λ (z : List Use). z ++ (k1, e) ∷ []) (no_places (uses_of n0) none) in
    let same : n2 ≡ n1 = second ∙ ap (λ (z : List Notice). n1 ++ z) plain ∙ append-nil n1 in
    ap uses_of third ∙ uses_more n2 (Target k3 t ∷ []) ∙ ap (λ (z : List Use). z ++ (k3, t) ∷ []) (ap uses_of same ∙ u1)

pub one_use : (n0 n1 n2 n3 more : List Notice) (k1 : ℕ) (e : DeferredTarget) → places_told (uses_of n0) ≡ [] → n1 ≡ n0 ++ Target k1 e ∷ [] → n2 ≡ n1 ++ more → more ≡ [] → n3 ≡ n2 → uses_of n3 ≡ (k1, e) ∷ []
one_use n0 n1 n2 n3 more k1 e none first second plain third =
    let u1 : uses_of n1 ≡ (k1, e) ∷ [] = ap uses_of first ∙ uses_more n0 (Target k1 e ∷ []) ∙ ap (λ (z : List Use). z ++ (k1, e) ∷ []) (no_places (uses_of n0) none) in
    let same : n2 ≡ n1 = second ∙ ap (λ (z : List Notice). n1 ++ z) plain ∙ append-nil n1 in
    ap uses_of (third ∙ same) ∙ u1

pub other_label : (a b : Label) (n : ℕ) → a.0 ≡ n → b.0 ≡ n + 1 → ◌≡◌ {A = DeferredTarget} (target.Label a) (target.Label b) → ⊥
other_label a b n first second e =
    let f : a ≡ b = cc in
    let same : a.0 ≡ b.0 = ap (λ (z : Label). z.0) f in
    absurd (omega (arith, same, first, second))

pub none_told : {M : Type 0} (memory : Option (Amode M)) (at : ℕ) (r : Reading) → memory ≡ None → notices_of memory at r ≡ []
none_told memory at r e = rw e refl
