-- Lines that are taken one after another, of a text or of a case.
use Rattle.std.proofs.Common.{◌≡◌, ◌+◌, ℕ, List, [], ◌∷◌, ◌++◌, length, map, Some, refl, ap, sym, ◌∙◌, subst, arith, append_assoc, append-nil, length-append}
use Rattle.certificate_text.specs.CertText.{text_of}
use Rattle.certificate_text.specs.Unread.{Unread, Text, Numbered, Takes, TakesAll, IsOver, HasRoom}
use Rattle.fare_law.specs.declared.rows.TextLine.{TextLine}
use Rattle.fare_law.specs.Lists.{Each}
use Rattle.word_text.specs.Laws.{CutTells}
use Rattle.word_text.specs.Words.{IsFreeOf, cut_at}

-- what stands before the first line feed is one
first_line : (l k a b : List ℕ) → IsFreeOf 10 l → IsFreeOf 10 k → l ++ 10 ∷ a ≡ k ++ 10 ∷ b → (l ≡ k) × (a ≡ b)
first_line [] [] a b h g e = (refl, cc)
first_line [] (y ∷ ys) a b h g e = let same : y ≡ 10 = cc in absurd (g.0 same)
first_line (x ∷ xs) [] a b h g e = let same : x ≡ 10 = cc in absurd (h.0 same)
first_line (x ∷ xs) (y ∷ ys) a b h g e =
    let one : x ≡ y = cc in
    let more : xs ++ 10 ∷ a ≡ ys ++ 10 ∷ b = cc in
    let r = first_line xs ys a b h.1 g.1 more in
    (ap (λ z. z ∷ xs) one ∙ ap (λ zs. y ∷ zs) r.0, r.1)

-- the first line is one, and so is what is left after it
pub takes_one : (from : Unread) (l k : List ℕ) (v w : Unread) → Takes from l v → Takes from k w → (l ≡ k) × (v ≡ w)
takes_one (Text text n) l k v w (a, free, e, is) (b, free', e', is') =
    let r = first_line l k a b free free' (sym e ∙ e') in
    (r.0, is ∙ ap (λ t. Text t (n + 1)) r.1 ∙ sym is')
takes_one (Numbered [] end) l k v w h g = absurd h
takes_one (Numbered (x ∷ xs) end) l k v w h g = (h.0 ∙ sym g.0, h.1 ∙ sym g.1)

no_bytes : (xs ys : List ℕ) → xs ++ 10 ∷ ys ≡ [] → ⊥
no_bytes [] ys e = absurd (cc)
no_bytes (x ∷ xs) ys e = absurd (cc)

-- where a line can be taken, something is left
pub takes_some : (from : Unread) (l : List ℕ) (v : Unread) → Takes from l v → IsOver from → ⊥
takes_some (Text text n) l v h none = no_bytes l h.0 (sym h.2 ∙ none)
takes_some (Numbered [] end) l v h none = h
takes_some (Numbered (x ∷ xs) end) l v h none = absurd (cc)

pub takes_more : (from left last : Unread) (xs ys : List (List ℕ)) → TakesAll from xs left → TakesAll left ys last → TakesAll from (xs ++ ys) last
takes_more from left last [] ys h k = subst (λ u. TakesAll u ys last) (sym h) k
takes_more from left last (x ∷ xs) ys h k = (h.0, h.1, takes_more h.0 left last xs ys h.2 k)

room_one : (from : Unread) (l : List ℕ) (v : Unread) → Takes from l v → HasRoom from → HasRoom v
room_one (Text text n) l v (more, free, e, is) h =
    subst HasRoom (sym is) (omega (arith, h, ap length e, length-append l (10 ∷ more)))
room_one (Numbered [] end) l v h k = absurd h
room_one (Numbered (x ∷ xs) end) l v h k = subst HasRoom (sym h.1) tt

-- the numbers of lines stay within what is left
pub room_all : (from left : Unread) (xs : List (List ℕ)) → TakesAll from xs left → HasRoom from → HasRoom left
room_all from left [] h k = subst HasRoom h k
room_all from left (x ∷ xs) h k = room_all h.0 left xs h.2 (room_one from x h.0 h.1 k)

-- what stands before the first line feed can be taken
pub cut_takes : CutTells → (text line more : List ℕ) (n : ℕ) → cut_at 10 text ≡ Some (line, more) → Takes (Text text n) line (Text more (n + 1))
cut_takes cuts text line more n e = let h = cuts.read 10 text (line, more) e in (more, h.1, h.0, refl)

-- ---- whole texts and lists of lines

-- the lines that are taken of a text are its front
pub text_taken : (text : List ℕ) (n : ℕ) (ls : List (List ℕ)) (v : Unread) → TakesAll (Text text n) ls v
    → (left : List ℕ) × (m : ℕ) × (v ≡ Text left m) × (text ≡ text_of ls ++ left)
text_taken text n [] v e = (text, n, sym e, refl)
text_taken text n (l ∷ ls) v (next, (more, free, e, is), h) =
    let r = text_taken more (n + 1) ls v (subst (λ u. TakesAll u ls v) is h) in
    (r.0, r.1, r.2, e ∙ ap (λ t. l ++ 10 ∷ t) r.3 ∙ sym (append_assoc l (10 ∷ []) (text_of ls ++ r.0)) ∙ sym (append_assoc (l ++ 10 ∷ []) (text_of ls) r.0))

-- where nothing is left, they are the text
pub text_whole : (text : List ℕ) (n : ℕ) (ls : List (List ℕ)) (v : Unread) → TakesAll (Text text n) ls v → IsOver v → text ≡ text_of ls
text_whole text n ls v h over =
    let r = text_taken text n ls v h in
    let none : r.0 ≡ [] = subst IsOver r.2 over in
    r.3 ∙ ap (λ t. text_of ls ++ t) none ∙ append-nil (text_of ls)

pub text_takes : (ls : List (List ℕ)) (n : ℕ) → Each (IsFreeOf 10) ls → (m : ℕ) × TakesAll (Text (text_of ls) n) ls (Text [] m)
text_takes [] n h = (n, refl)
text_takes (l ∷ ls) n h =
    let r = text_takes ls (n + 1) h.1 in
    (r.0, (Text (text_of ls) (n + 1), (text_of ls, h.0, append_assoc l (10 ∷ []) (text_of ls), refl), r.1))

abbrev pub bytes_in : List TextLine → List (List ℕ)
bytes_in xs = map (λ (x : TextLine). x.bytes) xs

pub lines_whole : (xs : List TextLine) (end : ℕ) (ls : List (List ℕ)) (v : Unread) → TakesAll (Numbered xs end) ls v → IsOver v → bytes_in xs ≡ ls
lines_whole xs end [] v h over = let none : xs ≡ [] = subst IsOver (sym h) over in ap bytes_in none
lines_whole [] end (l ∷ ls) v h over = absurd h.1
lines_whole (x ∷ xs) end (l ∷ ls) v (next, (e, is), h) over =
    ap (λ z. z ∷ bytes_in xs) (sym e) ∙ ap (λ zs. l ∷ zs) (lines_whole xs end ls v (subst (λ u. TakesAll u ls v) is h) over)

pub lines_take : (xs : List TextLine) (end : ℕ) → TakesAll (Numbered xs end) (bytes_in xs) (Numbered [] end)
lines_take [] end = refl
lines_take (x ∷ xs) end = (Numbered xs end, (refl, refl), lines_take xs end)
