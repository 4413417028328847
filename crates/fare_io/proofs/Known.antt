-- What is known of bytes over several reads or writes: `MemSource::read`, `read_all` and `write_all` cite these.
use Rattle.std.proofs.Common.{◌≡◌, ℕ, ◌+◌, ◌≤◌, ◌<◌, ◌-◌, List, [], ◌++◌, length, take, drop, min, Option, None, Some, refl, ap, sym, ◌∙◌, subst, arith, append_assoc, append-nil, take-add}
use Rattle.std.specs.Prelude.{slice_range}
use Rattle.std.specs.Io.{StartsWith, appended_bytes}
use Rattle.std.specs.Io.KnownBytes.{Appends, Consumes, Keeps, IsAtEnd}
use Rattle.std.proofs.lemmas.List.{take-append-drop, take_all, drop-drop, drop_all, length-drop, length-append}
use Rattle.std.proofs.Math.Seq.{drop-append_seam}
use Rattle.std.proofs.KnownBytes.{Consumes-nil, Appends-nil}
use Rattle.fare_io.specs.Streams.{ReadsWhole, ReadsPast, GivesAtMost, AppendsFront}

-- the rest of a slice from a place on, as a range
pub rest_is : (xs : List ℕ) (at : ℕ) → take (length xs - at) (drop at xs) ≡ drop at xs
rest_is xs at = take_all (length xs - at) (drop at xs) (omega (arith, length-drop at xs))

-- what is left is the bytes that were read and what is left after them
pub rest_splits : (xs : List ℕ) (at count : ℕ) → drop at xs ≡ take count (drop at xs) ++ drop (at + count) xs
rest_splits xs at count = sym (take-append-drop count (drop at xs)) ∙ ap (λ ys. take count (drop at xs) ++ ys) (drop-drop count at xs)

-- a read that took nothing for a buffer with room was at the end
pub rest_ends : (xs : List ℕ) (at count room : ℕ) → count ≡ min (length (drop at xs)) room → count ≡ 0 → 0 < room → drop (at + count) xs ≡ []
rest_ends xs at count room m z r = drop_all (at + count) xs (omega (arith, length-drop at xs))

pub ruleset read_steps = (rest_is, rest_splits, rest_ends)

-- a list that begins with another is that and what was appended
pub appended_joins : (old new : List ℕ) → StartsWith new old → new ≡ old ++ appended_bytes old new
appended_joins old new h = sym (ap (λ xs. xs ++ drop (length old) new) (sym h) ∙ take-append-drop (length old) new)

-- the bytes that were read, and a further piece
pub consumes_more : (a b c : Option (List ℕ)) (old new : List ℕ) → Consumes a b old → StartsWith new old → Consumes b c (appended_bytes old new) → Consumes a c new
consumes_more None b c old new p s q = tt
consumes_more (Some x) None c old new p s q = absurd p
consumes_more (Some x) (Some y) None old new p s q = absurd q
consumes_more (Some x) (Some y) (Some z) old new p s q =
    p ∙ ap (λ xs. old ++ xs) q ∙ sym (append_assoc old (appended_bytes old new) z) ∙ ap (λ xs. xs ++ z) (sym (appended_joins old new s))

-- at the end the bytes that were read are all
pub whole_read : (a b : Option (List ℕ)) (bytes : List ℕ) → Consumes a b bytes → IsAtEnd b → ReadsWhole a b bytes
whole_read None b bytes p e = tt
whole_read (Some all) None bytes p e = absurd p
whole_read (Some all) (Some rest) bytes p e = (sym (p ∙ ap (λ xs. bytes ++ xs) e ∙ append-nil bytes), ap Some e)

-- what comes after the bytes that were read
rest_after : (all bytes rest : List ℕ) (count : ℕ) → all ≡ bytes ++ rest → length bytes ≡ count → rest ≡ drop count all
rest_after all bytes rest count p l = sym (ap (λ n. drop n all) (sym l) ∙ ap (drop (length bytes)) p ∙ drop-append_seam bytes rest)

-- more than the limit was read
pub past_read : (a b : Option (List ℕ)) (bytes : List ℕ) (limit : ℕ) → Consumes a b bytes → length bytes ≡ limit + 1 → ReadsPast a b limit
past_read None b bytes limit p l = tt
past_read (Some all) None bytes limit p l = absurd p
past_read (Some all) (Some rest) bytes limit p l =
    (omega (arith, ap length p, length-append bytes rest), ap Some (rest_after all bytes rest (limit + 1) p l))

-- what was read is at most what the source gave
pub gives_read : (a b : Option (List ℕ)) (bytes : List ℕ) (most : ℕ) → Consumes a b bytes → length bytes ≤ most → GivesAtMost a b most
gives_read None b bytes most p l = tt
gives_read (Some all) None bytes most p l = absurd p
gives_read (Some all) (Some rest) bytes most p l = record { count = length bytes; within = l; rest = ap Some (rest_after all bytes rest (length bytes) p refl) }

-- what was read, and then at most so many bytes
pub gives_more : (a b c : Option (List ℕ)) (bytes : List ℕ) (further most : ℕ) → Consumes a b bytes → GivesAtMost b c further → length bytes + further ≤ most → GivesAtMost a c most
gives_more None b c bytes further most p q l = tt
gives_more (Some all) None c bytes further most p q l = absurd p
gives_more (Some all) (Some mid) c bytes further most p q l =
    record {
      count = length bytes + q.count;
      within = omega (arith, q.within);
      rest = q.rest ∙ ap (λ xs. Some (drop q.count xs)) (rest_after all bytes mid (length bytes) p refl) ∙ ap Some (drop-drop q.count (length bytes) all);
    }

pub ruleset whole_steps = (Consumes-nil, consumes_more, whole_read, past_read, gives_read, gives_more)

-- the text up to a place, and a further piece
pub appends_more : (a b c : Option (List ℕ)) (text : List ℕ) (at end : ℕ) → Appends a b (take at text) → at ≤ end → Appends b c (slice_range text at end) → Appends a c (take end text)
appends_more None b c text at end p l q = tt
appends_more (Some x) None c text at end p l q = absurd p
appends_more (Some x) (Some y) None text at end p l q = absurd q
appends_more (Some x) (Some y) (Some z) text at end p l q =
    let sum : at + (end - at) ≡ end = omega arith in
    q ∙ ap (λ xs. xs ++ slice_range text at end) p ∙ append_assoc x (take at text) (slice_range text at end)
    ∙ ap (λ xs. x ++ xs) (sym (take-add at (end - at) text) ∙ ap (λ n. take n text) sum)

-- the text up to its end
pub appends_all : (a b : Option (List ℕ)) (text : List ℕ) (at : ℕ) → length text ≤ at → Appends a b (take at text) → Appends a b text
appends_all a b text at l p = subst (λ xs. Appends a b xs) (take_all at text l) p

-- the text up to a place before its end, and nothing more
pub front_appends : (a b c : Option (List ℕ)) (text : List ℕ) (at : ℕ) → Appends a b (take at text) → at < length text → Keeps b c → AppendsFront a c text
front_appends None b c text at p l q = tt
front_appends (Some x) None c text at p l q = absurd p
front_appends (Some x) (Some y) None text at p l q = absurd q
front_appends (Some x) (Some y) (Some z) text at p l q = record { count = at; within = l; grown = ap Some (q ∙ p) }

pub ruleset write_steps = (Appends-nil, appends_more, appends_all, front_appends)
