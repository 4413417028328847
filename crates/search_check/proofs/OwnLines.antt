-- Each line of a certificate is read from its text as it was written: no line feed is in it, CR isn't its last byte, and it isn't #end.
use Rattle.std.proofs.Common.{◌≡◌, ◌≢◌, ◌<◌, ◌^◌, ◌++◌, ℕ, Bool, true, false, List, [], ◌∷◌, length, map, flat_map, Option, Some, None, IfSome, codes, append-nil, refl, sym, subst, arith}
use Rattle.std.specs.Fmt.{decimal}
use Rattle.case_text.specs.declared.headers.Header.TheVariants.{End}
use Rattle.case_text.specs.Headers.{is_named}
use Rattle.certificate.specs.declared.parts.CertAnswer.{CertAnswer}
use Rattle.certificate.specs.declared.parts.CertRow.{CertRow}
use Rattle.certificate.specs.declared.parts.Certificate.{Certificate}
use Rattle.certificate_text.specs.CertText.{IsCertificate, IsRequestText, answer_lines, cert_lines, request_line, row_lines}
use Rattle.certificate_text.specs.Lines.{IsAnswer, IsMove, IsRow, answer_line, bound_word, move_words, number_line, row_line, spaced}
use Rattle.certificate_text.proofs.JsonFeeds.{request_free}
use Rattle.certificate_text.proofs.LineFeeds.{free_answer, free_known, free_more, free_number, free_row}
use Rattle.fare_law.specs.declared.moves.Move.{Move}
use Rattle.fare_law.specs.declared.requests.Request.{Request}
use Rattle.fare_law.specs.Limits.{IsRequest}
use Rattle.fare_law.specs.Lists.{Each, OnLast}
use Rattle.json.specs.Print.{quoted}
use Rattle.request_text.specs.Text.{Writes}
use Rattle.residual_keys.specs.ResidualText.{residual_text}
use Rattle.residual_keys.proofs.WordFacts.{Separates, Words, free_decimal}
use Rattle.serde_json.specs.Data.{Data, Members, member, no_members, object}
use Rattle.serde_json.specs.Written.{comma_if, compact_text, members_text}
use Rattle.word_text.specs.Words.{IsFreeOf}
use Rattle.search_check.proofs.SectionsJoined.{IsOwn}
use Rattle.law_lemmas.proofs.EachOne.{each_append}

carriage_return : Separates 13
carriage_return = record { digit = λ b h e. omega (arith, h, e); capital = λ b h e. omega (arith, h, e); dash = λ e. omega (arith, e); star = λ e. omega (arith, e) }

-- ---- the last byte

abbrev EndsWell : List ℕ → Type 0
EndsWell line = OnLast (λ b. b ≢ 13) line

last_more : (xs ys : List ℕ) → EndsWell ys → EndsWell (xs ++ ys)
last_more [] ys h = h
last_more (x ∷ []) [] h = absurd h
last_more (x ∷ []) (y ∷ ys) h = h
last_more (x ∷ z ∷ xs) ys h = last_more (z ∷ xs) ys h

last_free : (x : ℕ) (xs : List ℕ) → x ≢ 13 → IsFreeOf 13 xs → EndsWell (x ∷ xs)
last_free x [] other free = other
last_free x (y ∷ ys) other free = last_free y ys free.0 free.1

-- words whose last one has no CR
spaced_last : (ws : List (List ℕ)) → OnLast (IsFreeOf 13) ws → EndsWell (spaced ws)
spaced_last [] h = absurd h
spaced_last (w ∷ []) h = last_free 32 (w ++ []) (λ e. omega (arith, e)) (subst (IsFreeOf 13) (sym (append-nil w)) h)
spaced_last (w ∷ v ∷ vs) h = last_more (32 ∷ w) (spaced (v ∷ vs)) (spaced_last (v ∷ vs) h)

words_more : (vs ws : List (List ℕ)) → OnLast (IsFreeOf 13) ws → OnLast (IsFreeOf 13) (vs ++ ws)
words_more [] ws h = h
words_more (v ∷ []) [] h = absurd h
words_more (v ∷ []) (w ∷ ws) h = h
words_more (v ∷ u ∷ vs) ws h = words_more (u ∷ vs) ws h

move_last : Words → (m : Move) → IsMove m → OnLast (IsFreeOf 13) (move_words m)
move_last k m h = words_more (decimal (length m.flights) ∷ map decimal m.flights) _ (free_decimal k 13 carriage_return m.slot (omega (arith, h.slot)))

moves_last : Words → (ws : List (List ℕ)) (ms : List Move) → OnLast (IsFreeOf 13) ws → Each IsMove ms → OnLast (IsFreeOf 13) (ws ++ flat_map move_words ms)
moves_last k ws [] h each = subst (OnLast (IsFreeOf 13)) (sym (append-nil ws)) h
moves_last k ws (m ∷ ms) h each = words_more ws (move_words m ++ flat_map move_words ms) (moves_last k (move_words m) ms (move_last k m each.0) each.1)

bound_last : Words → (b : Option ℕ) → IfSome b (λ n. n < 2 ^ 64) → EndsWell (32 ∷ bound_word b)
bound_last k None h = last_free 32 (codes "-") (λ e. omega (arith, e)) (λ e. omega (arith, e), tt)
bound_last k (Some n) h = last_free 32 (decimal n) (λ e. omega (arith, e)) (free_decimal k 13 carriage_return n h)

members_last : (later : Bool) (ms : Members) → EndsWell (members_text later ms)
members_last later no_members = λ e. omega (arith, e)
members_last later (member name d ms) = last_more (comma_if later) _ (last_more (quoted name) _ (last_more (58 ∷ compact_text d) _ (members_last true ms)))

object_last : (d : Data) (ms : Members) → d ≡ object ms → EndsWell (compact_text d)
object_last d ms e = subst (λ x. EndsWell (compact_text x)) (sym e) (last_more (123 ∷ []) (members_text false ms) (members_last false ms))

request_last : (q : Request) (text : List ℕ) → Writes q text → EndsWell text
request_last q text w = subst EndsWell (sym w.compact) (object_last w.json _ w.request.written)

-- ---- lines

number_own : Words → (name : List ℕ) (n : ℕ) → IsFreeOf 10 name → is_named (number_line name n) End ≡ false → n < 2 ^ 32 → IsOwn (number_line name n)
number_own k name n free other small = record {
  read = record { free = free_number k name n free small; last = last_more name (32 ∷ decimal n) (last_free 32 (decimal n) (λ e. omega (arith, e)) (free_decimal k 13 carriage_return n (omega (arith, small)))) };
  other = other;
}

answer_own : Words → (a : CertAnswer) → IsAnswer a → IsOwn (answer_line a)
answer_own k a h = record {
  read = record {
    free = free_answer k a h;
    last =
        last_more (codes "answer") (spaced (decimal a.price ∷ flat_map move_words a.moves))
        (spaced_last (decimal a.price ∷ flat_map move_words a.moves) (moves_last k (decimal a.price ∷ []) a.moves (free_decimal k 13 carriage_return a.price h.price) h.moves));
  };
  other = refl;
}

row_own : Words → (r : CertRow) → IsRow r → IsOwn (row_line r)
row_own k r h = record {
  read = record { free = free_row k r h; last = last_more (codes "row ") (residual_text r.residual ++ 32 ∷ bound_word r.bound) (last_more (residual_text r.residual) (32 ∷ bound_word r.bound) (bound_last k r.bound h.bound)) };
  other = refl;
}

request_own : Words → (q : Request) (text : List ℕ) → IsRequest q → IsRequestText q text → IsOwn (request_line text)
request_own k q text h w = record {
  read = record { free = free_more (codes "request ") text (free_known (codes "request ") refl) (request_free k q text h w.compact); last = last_more (codes "request ") text (request_last q text w.compact) };
  other = refl;
}

known_own : (line : List ℕ) → IsFreeOf 10 line → EndsWell line → is_named line End ≡ false → IsOwn line
known_own line free last other = record { read = record { free = free; last = last }; other = other }

listed_own : {X : Type 0} (Is : X → Type 0) (f : X → List ℕ) → ((x : X) → Is x → IsOwn (f x)) → (xs : List X) → Each Is xs → Each IsOwn (map f xs)
listed_own Is f own [] h = tt
listed_own Is f own (x ∷ xs) h = (own x h.0, listed_own Is f own xs h.1)

pub certificate_own : Words → (c : Certificate) (request : List ℕ) → IsCertificate c → IsRequestText c.request request → Each IsOwn (cert_lines c request)
certificate_own k c request h q =
    let answers : Each IsOwn (answer_lines c.answers) = (number_own k (codes "answers") (length c.answers) (free_known (codes "answers") refl) refl h.answer_count, listed_own IsAnswer answer_line (answer_own k) c.answers h.answers) in
    let rows : Each IsOwn (row_lines c.rows) = (number_own k (codes "rows") (length c.rows) (free_known (codes "rows") refl) refl h.row_count, listed_own IsRow row_line (row_own k) c.rows h.rows) in
    let end : IsOwn (codes "end") = known_own (codes "end") (free_known (codes "end") refl) (λ e. omega (arith, e)) refl in (
      known_own (codes "certificate 1") (free_known (codes "certificate 1") refl) (λ e. omega (arith, e)) refl,
      (
        number_own k (codes "version") c.number (free_known (codes "version") refl) refl h.number,
        (
          request_own k c.request request h.request q,
          each_append IsOwn (answer_lines c.answers) (row_lines c.rows ++ codes "end" ∷ []) answers (each_append IsOwn (row_lines c.rows) (codes "end" ∷ []) rows (end, tt)),
        ),
      ),
    )
