use Rattle.std.proofs.Common.{◌≡◌, ◌∙◌, ◌+◌, ◌*◌, ◌<◌, ◌⊎◌, inl, inr, ℕ, ℤ, pos, refl, sym, subst, arith, List, length, take}
use Rattle.cax64_encoder.specs.declared.fault.Fault.{Fault}
use Rattle.cax64_encoder.specs.declared.fault.Fault.TheVariants as fault
use Rattle.x64_plain.specs.Status.{fault_status}
use Rattle.x64_plain.specs.declared.status.TheConstants.{HQ_OUT_OF_RANGE}
use Rattle.huqmeris_c.specs.Items.{CantBePut, NoItem, NoneRefused, NotAssembled, RefusedAt, Unlisted}
use Rattle.huqmeris_c.specs.Putting.{Denied, Unfinished}
use Rattle.huqmeris_c.specs.declared.item.HqItem.{HqItem}
use Rattle.huqmeris_c.specs.declared.progress.HqDone.{HqDone}
use Rattle.huqmeris_c.specs.declared.status.TheConstants.{HQ_NO_MEMORY, HQ_TOO_MANY}

-- What is told where nothing was put.

unfault : (why : Fault) (n : ℕ) → n < 16 → fault_status why ≡ pos n → ⊥
unfault (fault.Register at) n few e = let f : ◌≡◌ {A = ℤ} (pos (16 + 256 * at)) (pos n) = e in let k : 16 + 256 * at ≡ n = cc in omega (arith, few, k)
unfault (fault.Index at) n few e = let f : ◌≡◌ {A = ℤ} (pos (17 + 256 * at)) (pos n) = e in let k : 17 + 256 * at ≡ n = cc in omega (arith, few, k)
unfault (fault.Fixed at) n few e = let f : ◌≡◌ {A = ℤ} (pos (18 + 256 * at)) (pos n) = e in let k : 18 + 256 * at ≡ n = cc in omega (arith, few, k)
unfault (fault.Unknown key) n few e = let f : ◌≡◌ {A = ℤ} (pos (19 + 256 * key)) (pos n) = e in let k : 19 + 256 * key ≡ n = cc in omega (arith, few, k)
unfault fault.Range n few e = let f : ◌≡◌ {A = ℤ} (pos 20) (pos n) = e in let k : 20 ≡ n = cc in omega (arith, few, k)

two_statuses : (status : ℤ) (m n : ℕ) → status ≡ pos m → status ≡ pos n → (m ≡ n → ⊥) → ⊥
two_statuses status m n e f apart = let g : ◌≡◌ {A = ℤ} (pos m) (pos n) = sym e ∙ f in let k : m ≡ n = cc in apart k

-- a status that names an item is neither of these
unitem : (before : List HqItem) (item : HqItem) (status : ℤ) (n : ℕ) → 1 < n → n < 12 → NoItem before item status → status ≡ pos n → ⊥
unitem before item status n some few (inl c) e = two_statuses status 12 n c.0 e (λ k. omega (arith, k, few))
unitem before item status n some few (inr (inl c)) e = two_statuses status 12 n c.0 e (λ k. omega (arith, k, few))
unitem before item status n some few (inr (inr (inl c))) e = two_statuses status 12 n c.0 e (λ k. omega (arith, k, few))
unitem before item status n some few (inr (inr (inr c))) e = two_statuses status 1 n c.0 e (λ k. omega (arith, k, some))

unput : (given : ℕ) (before : List HqItem) (item : HqItem) (status : ℤ) (n : ℕ) → n < 12 → CantBePut given before item status → status ≡ pos n → ⊥
unput given before item status n few (inl c) e = unfault c.1.fault n (omega (arith, few)) (sym c.1.named ∙ e)
unput given before item status n few (inr (inl c)) e = two_statuses status 13 n c.0 e (λ k. omega (arith, k, few))
unput given before item status n few (inr (inr c)) e = two_statuses status 14 n c.0 e (λ k. omega (arith, k, few))

unrefused : (items : List HqItem) (number : ℕ) (status : ℤ) (n : ℕ) → 1 < n → n < 12 → RefusedAt items number status → status ≡ pos n → ⊥
unrefused items number status n some few (inl h) e = unitem (take number items) h.item status n some few h.why e
unrefused items number status n some few (inr h) e = unput (length items) (take number items) h.1.item status n few h.1.why e

pub none_told : (items : List HqItem) (number : ℕ) (status : ℤ) → (status ≡ HQ_NO_MEMORY) ⊎ (status ≡ HQ_TOO_MANY) → Denied items number status → Unlisted items 0 status
none_told items number status which (inl m) = inl (m, refl)
none_told items number status which (inr (inl h)) = inr (inl (h.0, h.1, refl))
none_told items number status (inl m) (inr (inr h)) = absurd (unrefused items number status 11 (omega arith) (omega arith) h m)
none_told items number status (inr m) (inr (inr h)) = absurd (unrefused items number status 10 (omega arith) (omega arith) h m)

-- an item that refers to what has no place, or no memory for what is told, or a place that is too far
pub unfinished_as : (items : List HqItem) (room places : ℕ) (why status : ℤ) (done : HqDone) → NoneRefused items → (why ≡ HQ_NO_MEMORY) ⊎ (why ≡ HQ_OUT_OF_RANGE) → Unfinished items why done status → NotAssembled items room places done status
unfinished_as items room places why status done tested which (inl u) = inr (tested, inl u)
unfinished_as items room places why status done tested (inl m) (inr u) = subst (λ (d : HqDone). NotAssembled items room places d status) (sym u.2) (inl (inl (u.0 ∙ m, refl), refl))
unfinished_as items room places why status done tested (inr far) (inr u) = inr (tested, inr (inl (u.0 ∙ far, u.1, u.2)))
