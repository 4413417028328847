-- Lines whose bytes are tested one after another.
use Rattle.std.proofs.Common.{◌≡◌, ◌<◌, ◌≤◌, ◌+◌, ℕ, zero, suc, List, [], ◌∷◌, ◌++◌, length, take, get_or, Bool, true, false, ◌&&◌, refl, ap, sym, ◌∙◌, arith, rules}
use borrow.Author.Tests.{tests}
use Rattle.std.proofs.lemmas.List.{take_all, take_more}
use Rattle.case_text.specs.Cut.{IsPlain, IsPlainLine, plain_byte, plain_line}
use Rattle.law_lemmas.proofs.Tests.{both_true}

and_true : (b : Bool) → (b && true) ≡ b
and_true true = refl
and_true false = refl

both_of : (b c d e : Bool) → c ≡ (d && e) → (b && c) ≡ ((b && d) && e)
both_of true c d e h = h
both_of false c d e h = refl

plain_end : (line : List ℕ) (byte : ℕ) → plain_line (line ++ byte ∷ []) ≡ (plain_line line && plain_byte byte)
plain_end [] byte = and_true (plain_byte byte)
plain_end (c ∷ line) byte = both_of (plain_byte c) (plain_line (line ++ byte ∷ [])) (plain_line line) (plain_byte byte) (plain_end line byte)

-- one byte further
pub plain_more : (line : List ℕ) (i : ℕ) (plain byte : Bool) (d : ℕ) → i < length line → byte ≡ plain_byte (get_or line i d) → plain ≡ plain_line (take i line) → (plain && byte) ≡ plain_line (take (i + 1) line)
plain_more line i plain byte d l is h = rw (is, h) (sym (ap plain_line (take_more line i d l) ∙ plain_end (take i line) (get_or line i d)))

pub plain_all : (line : List ℕ) (i : ℕ) (plain : Bool) → length line ≤ i → plain ≡ plain_line (take i line) → plain ≡ plain_line line
plain_all line i plain l h = h ∙ ap plain_line (take_all i line l)

byte_is : (c : ℕ) → plain_byte c ≡ true → IsPlain c
byte_is c h = record { ascii = search (rules, tests); quote = search (rules, tests); lf = search (rules, tests); cr = search (rules, tests) }

plain_at : (line : List ℕ) → plain_line line ≡ true → (k : ℕ) (d : ℕ) → k < length line → IsPlain (get_or line k d)
plain_at [] h k d l = absurd (omega (arith, l))
plain_at (c ∷ cs) h zero d l = byte_is c (both_true (plain_byte c) (plain_line cs) h).0
plain_at (c ∷ cs) h (suc k) d l = plain_at cs (both_true (plain_byte c) (plain_line cs) h).1 k d (omega (arith, l))

pub plain_each : (line : List ℕ) (i : ℕ) (plain : Bool) → length line ≤ i → plain ≡ plain_line (take i line) → plain ≡ true → IsPlainLine line
plain_each line i plain l h t = plain_at line (sym (plain_all line i plain l h) ∙ t)

pub ruleset plain_steps = (plain_more, plain_all, plain_each)
