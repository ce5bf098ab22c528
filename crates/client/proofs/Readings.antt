use Rattle.std.proofs.Common.{◌≡◌, ◌∙◌, ap, sym, refl, append_assoc, ℕ, ◌+◌, ◌-◌, ◌<◌, ◌≤◌, arith, Option, Some, IsSome, List, [], ◌∷◌, ◌++◌, length, map, take, drop, get_or}
use Rattle.std.proofs.lemmas.List.{append-nil, drop_more, drop-drop, length-drop, map_more}
use Rattle.std.proofs.Math.Seq.{take-length}
use Rattle.cranelift_assembler_x64.specs.List.{AddsAll, FirstReads}
use Rattle.cranelift_assembler_x64.specs.Meant.{Meant}
use Rattle.cranelift_assembler_x64.specs.Reading.{Parts, read}
use Rattle.cranelift_assembler_x64.specs.Sequence.{ReadsAllAs}
use Rattle.cranelift_assembler_x64.specs.Sink.{State}
use Rattle.cranelift_assembler_x64.specs.declared.reader.Reading.{Reading}

-- What is left of a list of instructions reads as what is left of the bytes: one reading of it.

abbrev pub OneReading : Type 0
OneReading = (meant : Parts) (later : List Parts) (b : List ℕ) → ReadsAllAs (meant ∷ later) b → FirstReads meant later b

pub first_left : {X : Type 0} (p : X → Parts) (xs : List X) (i : ℕ) (x : X) (b : List ℕ) → OneReading → i < length xs → x ≡ get_or xs i x → ReadsAllAs (map p (drop i xs)) b → FirstReads (p x) (map p (drop (i + 1) xs)) b
first_left p xs i x b one within is left =
    let split : map p (drop i xs) ≡ p x ∷ map p (drop (i + 1) xs) = ap (map p) (drop_more xs i x within) ∙ ap (λ z. p z ∷ map p (drop (i + 1) xs)) (sym is) in
    let all : ReadsAllAs (p x ∷ map p (drop (i + 1) xs)) b = rw split at left in
    one _ _ _ all

pub is_read : (meant : Parts) (later : List Parts) (b : List ℕ) (first : FirstReads meant later b) → read b ≡ Some first.reading
is_read meant later b first = ap read (sym (append-nil b)) ∙ first.reads []

pub from_on : {A : Type 0} (f : List ℕ → A) (code b : List ℕ) (at : ℕ) → b ≡ code → f (take (length b - at) (drop at b)) ≡ f (drop at code)
from_on f code b at e =
    ap (λ (x : List ℕ). f (take (length x - at) (drop at x))) e ∙ ap f (ap (λ (n : ℕ). take n (drop at code)) (sym (length-drop at code)) ∙ take-length (drop at code))

pub there_is_one : {A : Type 0} (o : Option A) (x : A) → o ≡ Some x → IsSome o
there_is_one o x e = rw e refl

pub only_one : {A : Type 0} (o : Option A) (a b : A) → o ≡ Some a → o ≡ Some b → a ≡ b
only_one o a b e f = cc

pub next_left : (meant : Parts) (later : List Parts) (code : List ℕ) (at n : ℕ) (r : Reading) (first : FirstReads meant later (drop at code)) → r ≡ first.reading → n ≡ r.length → at ≤ length code → (at + n ≤ length code) × ReadsAllAs later (drop (at + n) code) × (r.row ≡ meant.row)
next_left meant later code at n r first e is within =
    let len : n ≡ first.reading.length = is ∙ ap (λ (x : Reading). x.length) e in
    let left : ReadsAllAs later (drop n (drop at code)) = rw (sym len) at first.left in
    (omega (arith, within, len, first.within, length-drop at code), rw (drop-drop n at code) at left, ap (λ (x : Reading). x.row) e ∙ ap (λ (p : Parts). p.row) first.same)

pub one_more_row : {X Y : Type 0} (f : X → Y) (xs : List X) (i : ℕ) (x : X) (y : Y) (before now new : List Y) → i < length xs → x ≡ get_or xs i x → y ≡ f x → now ≡ before ++ map f (take i xs) → new ≡ now ++ y ∷ [] → new ≡ before ++ map f (take (i + 1) xs)
one_more_row {X} {Y} f xs i x y before now new within is row held pushed =
    let more : map f (take (i + 1) xs) ≡ map f (take i xs) ++ y ∷ [] = map_more f xs i x within ∙ ap (λ (z : Y). map f (take i xs) ++ z ∷ []) (ap f (sym is) ∙ sym row) in
    pushed ∙ ap (λ (z : List Y). z ++ y ∷ []) held ∙ append_assoc before (map f (take i xs)) (y ∷ []) ∙ ap (λ (z : List Y). before ++ z) (sym more)

parts_of_all : {A M : Type 0} (f : A → Meant M) (xs : List A) → map (λ (m : Meant M). m.parts) (map f xs) ≡ map (λ (x : A). (f x).parts) xs
parts_of_all f [] = refl
parts_of_all f (x ∷ xs) = ap (λ (z : List Parts). (f x).parts ∷ z) (parts_of_all f xs)

pub all_read : {A M : Type 0} (f : A → Meant M) (xs : List A) (old new : State) → old.bytes ≡ [] → AddsAll (map f xs) old new → ReadsAllAs (map (λ (x : A). (f x).parts) xs) new.bytes
all_read {A} {M} f xs old new empty adds =
    let is : new.bytes ≡ adds.added = adds.bytes ∙ ap (λ (z : List ℕ). z ++ adds.added) empty in
    let reads : ReadsAllAs (map (λ (x : A). (f x).parts) xs) adds.added = rw (parts_of_all f xs) at adds.reads in
    rw (sym is) at reads
