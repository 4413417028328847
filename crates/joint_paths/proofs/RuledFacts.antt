-- What rules say of the heads of a bucket, as it is found.
use Rattle.std.proofs.Common.{◌≡◌, ℕ, ◌+◌, ◌<◌, ◌≤◌, Bool, true, false, cond, List, [], ◌∷◌, ◌++◌, length, take, slice_get, Option, Some, None, IfNone, IfSome, All, unwrap_or, bit_or, refl, sym, ap, subst, ◌∙◌, inl, inr, append-nil, append_assoc, length-append, arith}
use Rattle.fare_ends.specs.declared.rule_numbers.KnownRule.{KnownRule}
use Rattle.fare_ends.specs.Rules.{TestsNothing}
use Rattle.fare_ends.specs.Legs.{AreAmong}
use Rattle.fare_ends.proofs.Ranges.{got_more}
use Rattle.fare_groups.specs.Groups.{Permits, extra_of}
use Rattle.fare_law.specs.declared.flights.Flight.{Flight}
use Rattle.fare_law.specs.Lists.{Each, IsIn, IsPrefix, OnFirst}
use Rattle.joint_paths.specs.declared.buckets.Bucket.{Bucket}
use Rattle.joint_paths.specs.declared.crossing_heads.CrossingHead.{CrossingHead}
use Rattle.joint_paths.specs.declared.ruled_heads.Ruled.{Ruled}
use Rattle.joint_paths.specs.Heads.{HeadFlies, IsBucket, IsHeadOf}
use Rattle.joint_paths.proofs.HeadFacts.{head_flown}
use Rattle.fare_ends.proofs.Collected.{numbers_long}
use Rattle.joint_paths.specs.Ruled.{IsOwnRule, IsRuled, IsSaidByName, SaysOfHead, TakesLeast, rule_name}
use Rattle.joint_paths.proofs.FreeFacts.{free_extra}
use Rattle.joint_paths.proofs.PairFacts.{head_first}
use Rattle.fare_law.specs.Book.{Book}
use Rattle.fare_law.specs.Parts.{Numbers}
use Rattle.law_lemmas.proofs.LawFacts.{numbers_one}
use Rattle.law_lemmas.proofs.Options.{none_some, some_same}
use Rattle.fare_ends.proofs.OpenClasses.{among_each, among_right}
use Rattle.law_lemmas.proofs.EachOne.{each_at, each_by, each_in, each_more}
use Rattle.law_lemmas.proofs.Lists.{got_last, got_within, some_length}
use Rattle.law_lemmas.proofs.Numbers.{here_or_before}

-- what a rule says of a head stands there, and is in the classes and the least so far
pub record IsChargedSoFar (k : Bucket) (rule : KnownRule) (charges : List (Option ℕ)) (from classes : ℕ) (least : Option ℕ) (n : ℕ) (h : CrossingHead) : Type 0 where
  pub said : Option ℕ
  pub stands : slice_get charges (from + n) ≡ Some said
  pub says : SaysOfHead k rule h said
  pub free : rule.is_free ≡ true → said ≡ Some 0
  pub classes_in : (c : ℕ) → said ≡ Some c → AreAmong h.classes classes
  pub least_in : (c : ℕ) → said ≡ Some c → (low : ℕ) × (least ≡ Some low) × (low ≤ c)

-- so of the first so many heads, behind the old charges
pub record AreChargedSoFar (k : Bucket) (rule : KnownRule) (old new : List (Option ℕ)) (classes : ℕ) (least : Option ℕ) (count : ℕ) : Type 0 where
  pub more : List (Option ℕ)
  pub joined : new ≡ old ++ more
  pub many : length more ≡ count
  pub each : (n : ℕ) (h : CrossingHead) → n < count → slice_get k.heads.now n ≡ Some h → IsChargedSoFar k rule new (length old) classes least n h
  pub low : IfSome least (λ l. l ≤ 35000000)

pub charged_none : (k : Bucket) (rule : KnownRule) (old : List (Option ℕ)) → AreChargedSoFar k rule old old 0 None 0
charged_none k rule old = record { more = []; joined = sym (append-nil old); many = refl; each = λ n h lt e. absurd (omega (arith, lt)); low = tt }

-- the classes so far, and those of a head more
pub wider_own : (classes own here : ℕ) (said : Option ℕ) → ((c : ℕ) → said ≡ Some c → own ≡ here) → (c : ℕ) → said ≡ Some c → AreAmong here (bit_or classes own)
wider_own classes own here said same c e = subst (λ n. AreAmong n (bit_or classes own)) (same c e) (among_right classes own)

-- the charges of a permitted head, and of one that isn't
pub takes_some : (charges lower : ℕ) (least : Option ℕ) → lower ≤ charges → IfSome least (λ l. lower ≤ l) → TakesLeast (Some charges) least (Some lower)
takes_some charges lower least le falls = record {
  falls = λ low z. (lower, refl, subst (λ o. IfSome o (λ l. lower ≤ l)) z falls);
  own = λ c z. (lower, refl, let same = some_same charges c z in omega (arith, same, le));
  low = λ most own others. omega (arith, own, le);
}

pub takes_none : (least : Option ℕ) → TakesLeast None least least
takes_none least = record { falls = λ low z. (low, z, omega arith); own = λ c z. absurd (none_some c z); low = λ most own others. others }

-- One head more, with what the rule says of it.
module _ (k : Bucket) (rule : KnownRule) (old new : List (Option ℕ)) (classes : ℕ) (least : Option ℕ) (i : ℕ) (is : AreChargedSoFar k rule old new classes least i) (h : CrossingHead) (here : slice_get k.heads.now i ≡ Some h) (said : Option ℕ) (says : SaysOfHead k rule h said) (free : rule.is_free ≡ true → said ≡ Some 0) where
  abbrev pub next : List (Option ℕ)
  next = new ++ said ∷ []

  stays : (wider : ℕ) (lower : Option ℕ) → AreAmong classes wider → ((low : ℕ) → least ≡ Some low → (own : ℕ) × (lower ≡ Some own) × (own ≤ low)) → (n : ℕ) (g : CrossingHead) → IsChargedSoFar k rule new (length old) classes least n g → IsChargedSoFar k rule next (length old) wider lower n g
  stays wider lower among falls n g x = record {
    said = x.said;
    stands = got_more new next (length old + n) x.said (said ∷ [], refl) x.stands;
    says = x.says;
    free = x.free;
    classes_in = λ c e. among_each g.classes classes wider (x.classes_in c e) among;
    least_in = λ c e.
        let low = x.least_in c e in
        let own = falls low.0 low.1 in
        (own.0, own.1, let a = own.2 in let b = low.2 in omega (arith, a, b));
  }

  at_end : slice_get next (length old + i) ≡ Some said
  at_end = ap (slice_get next) (long (length new) (length old) i (ap length is.joined ∙ length-append old is.more) is.many) ∙ got_last new said
    where
      long : (n o m : ℕ) → n ≡ o + length is.more → length is.more ≡ m → o + m ≡ n
      long n o m e f = omega (arith, e, f)

  all : (wider : ℕ) (lower : Option ℕ) → AreAmong classes wider → ((low : ℕ) → least ≡ Some low → (own : ℕ) × (lower ≡ Some own) × (own ≤ low)) → IfSome lower (λ l. l ≤ 35000000) → IsChargedSoFar k rule next (length old) wider lower i h → AreChargedSoFar k rule old next wider lower (i + 1)
  all wider lower among falls low own = record {
    more = is.more ++ said ∷ [];
    joined = ap (λ xs. xs ++ said ∷ []) is.joined ∙ append_assoc old is.more (said ∷ []);
    many = let e = length-append is.more (said ∷ []) in let m = is.many in omega (arith, e, m);
    each = λ n g lt e. elim (here_or_before n i lt) [
      | inl before ↦ stays wider lower among falls n g (is.each n g before e)
      | inr same ↦ subst (λ m. IsChargedSoFar k rule next (length old) wider lower m g) (sym same) (subst (IsChargedSoFar k rule next (length old) wider lower i) (some_same h g (sym here ∙ ap (slice_get k.heads.now) (sym same) ∙ e)) own)
    ];
    low = low;
  }

  pub charged_next : (wider : ℕ) (lower : Option ℕ) → AreAmong classes wider → ((c : ℕ) → said ≡ Some c → AreAmong h.classes wider) → TakesLeast said least lower → AreChargedSoFar k rule old next wider lower (i + 1)
  charged_next wider lower among here_among takes = all wider lower among takes.falls (takes.low 35000000 (low_said said says) is.low)
      (record { said = said; stands = at_end; says = says; free = free; classes_in = here_among; least_in = takes.own })
    where
      low_said : (o : Option ℕ) → SaysOfHead k rule h o → IfSome o (λ c. c ≤ 35000000)
      low_said None s = tt
      low_said (Some c) s = s.0

-- a rule that tests nothing adds nothing on a head
pub says_free : (k : Bucket) (rule : KnownRule) (h : CrossingHead) → TestsNothing rule.rule → SaysOfHead k rule h (Some 0)
says_free k rule h free = (omega arith, λ fs m. sym (free_extra rule.rule fs free))

-- All heads are told of.
module _ (k : Bucket) (rule : KnownRule) (old new : List (Option ℕ)) (classes : ℕ) (least : Option ℕ) (count : ℕ) (whole : length k.heads.now ≤ count) (is : AreChargedSoFar k rule old new classes least count) (name : Option ℕ) (from : ℕ) (from_is : from ≡ length old) (lowest : ℕ) (lowest_is : lowest ≡ unwrap_or least 0) where
  abbrev pub ruled_of : Ruled
  ruled_of = record { rule = name; from = from; classes = classes; least = lowest }

  low_least : (o : Option ℕ) → IfSome o (λ l. l ≤ 35000000) → unwrap_or o 0 ≤ 35000000
  low_least None h = omega arith
  low_least (Some l) h = h

  charged_by : (other : KnownRule) → ((said : Option ℕ) (h : CrossingHead) → SaysOfHead k rule h said → (rule.is_free ≡ true → said ≡ Some 0) → SaysOfHead k other h said) → IsRuled k new other ruled_of
  charged_by other says = record {
    each = λ n h e.
        let x = is.each n h (let w = got_within k.heads.now n h e in omega (arith, w, whole)) e in
        record { said = x.said; stands = subst (λ m. slice_get new (m + n) ≡ Some x.said) (sym from_is) x.stands; says = says x.said h x.says x.free; classes = x.classes_in; least = λ c z. let l = x.least_in c z in subst (λ m. m ≤ c) (sym lowest_is) (subst (λ o. unwrap_or o 0 ≤ c) (sym l.1) l.2) };
    low = subst (λ m. m ≤ 35000000) (sym lowest_is) (low_least least is.low);
  }

  pub ruled_self : IsRuled k new rule ruled_of
  ruled_self = charged_by rule (λ said h s f. s)

  -- of a rule of the same name
  pub ruled_named : (rules : List KnownRule) (number : ℕ) → slice_get rules number ≡ Some rule → name ≡ rule_name rule number → IsSaidByName k rules new ruled_of
  ruled_named rules number at named n other there own other_named = by rule.is_free refl other.is_free refl
    where
      both : (a b : Bool) → rule.is_free ≡ a → other.is_free ≡ b → cond a None (Some number) ≡ cond b None (Some n)
      both a b e f = ap (λ t. cond t None (Some number)) (sym e) ∙ sym named ∙ other_named ∙ ap (λ t. cond t None (Some n)) f

      by : (a : Bool) → rule.is_free ≡ a → (b : Bool) → other.is_free ≡ b → IsRuled k new other ruled_of
      by true e true f = charged_by other (λ said h s free. subst (SaysOfHead k other h) (sym (free e)) (says_free k other h (own.free f)))
      by true e false f = absurd (none_some n (both true false e f))
      by false e true f = absurd (none_some number (sym (both false true e f)))
      by false e false f = subst (λ r. IsRuled k new r ruled_of) (some_same rule other (sym at ∙ ap (slice_get rules) (some_same number n (both false false e f)) ∙ there)) ruled_self

-- what rules say stays as more is told
pub ruled_stays : (k : Bucket) (old new : List (Option ℕ)) (rule : KnownRule) (r : Ruled) → IsPrefix old new → IsRuled k old rule r → IsRuled k new rule r
ruled_stays k old new rule r more h = record {
  each = λ n g e. let x = h.each n g e in record { said = x.said; stands = got_more old new (r.from + n) x.said more x.stands; says = x.says; classes = x.classes; least = x.least };
  low = h.low;
}

said_stays : (k : Bucket) (rules : List KnownRule) (old new : List (Option ℕ)) → IsPrefix old new → (r : Ruled) → IsSaidByName k rules old r → IsSaidByName k rules new r
said_stays k rules old new more r x number rule e own named = ruled_stays k old new rule r more (x number rule e own named)

pub rules_stay : (k : Bucket) (rules : List KnownRule) (was is : List Ruled) (old new : List (Option ℕ)) → is ≡ was → IsPrefix old new → Each (IsSaidByName k rules old) was → Each (IsSaidByName k rules new) is
rules_stay k rules was is old new same more h = subst (Each (IsSaidByName k rules new)) (sym same) (each_by (IsSaidByName k rules old) (IsSaidByName k rules new) was (said_stays k rules old new more) h)

-- and with one rule more
pub rules_more : (k : Bucket) (rules : List KnownRule) (was is : List Ruled) (old new : List (Option ℕ)) (r : Ruled) → is ≡ was ++ r ∷ [] → IsPrefix old new → IsSaidByName k rules new r → Each (IsSaidByName k rules old) was → Each (IsSaidByName k rules new) is
rules_more k rules was is old new r joined more own h = subst (Each (IsSaidByName k rules new)) (sym joined) (each_more (IsSaidByName k rules new) was r (each_by (IsSaidByName k rules old) (IsSaidByName k rules new) was (said_stays k rules old new more) h) own)

-- What a rule says of the flights of a head it says of the head.
pub says_of_head : (k : Bucket) (rule : KnownRule) (h : CrossingHead) (fs : List Flight) (said : Option ℕ) → HeadFlies k.case.now.book.now h fs → IfSome said (λ c. Permits rule.rule rule.carrier fs × (c ≡ extra_of rule.rule fs)) → IfNone said (Permits rule.rule rule.carrier fs → ⊥) → IfSome said (λ c. c ≤ 35000000) → SaysOfHead k rule h said
says_of_head k rule h fs None flies some none low = λ gs m p. none (subst (Permits rule.rule rule.carrier) (numbers_one k.case.now.book.now (take h.count h.flights) gs fs m flies) p)
says_of_head k rule h fs (Some c) flies some none low = (low, λ gs m. some.1 ∙ ap (extra_of rule.rule) (numbers_one k.case.now.book.now (take h.count h.flights) fs gs flies m))

-- the flights of these numbers and no more
pub flies_as : (b : Book) (h : CrossingHead) (ns : List ℕ) (fs : List Flight) → ns ≡ take h.count h.flights → Numbers b (ns ++ []) fs → HeadFlies b h fs
flies_as b h ns fs e m = subst (λ xs. Numbers b xs fs) (append-nil ns ∙ e) m

-- each by place
pub all_of_each : {X : Type 0} (P : X → Type 0) (xs : List X) → Each P xs → All P xs
all_of_each P xs each i d lt = each_at P xs i d each lt

-- a head has one to three flights, of which the first is the bucket's carrier's
module _ (k : Bucket) (bucket : IsBucket k) (h : CrossingHead) (head_in : IsIn h k.heads.now) where
  pub head_of : IsHeadOf k.case.now.book.now k.case.now.request.now k.at.now k.carrier k.first h
  head_of = each_in (IsHeadOf k.case.now.book.now k.case.now.request.now k.at.now k.carrier k.first) k.heads.now h bucket.heads head_in

  pub head_known : (fs : List Flight) × HeadFlies k.case.now.book.now h fs
  head_known = (head_of.is.crosses.flights, head_flown k h head_of.path head_of.is)

  pub head_many : (fs : List Flight) → HeadFlies k.case.now.book.now h fs → (1 ≤ length fs) × (length fs ≤ 3)
  head_many fs m =
      let is = head_of.is in
      let long = numbers_long k.case.now.book.now (take h.count h.flights) fs m ∙ sym (ap length is.numbers) in
      let some = some_length head_of.path.flights is.crosses.is_head.path.some in
      let few = is.few in
      let count = is.count in
      (omega (arith, long, some), omega (arith, long, few, count))

  pub head_short : (ns : List ℕ) → ns ≡ take h.count h.flights → length ns ≤ 3
  head_short ns e =
      let many = (head_many head_known.0 head_known.1).1 in
      let long = numbers_long k.case.now.book.now (take h.count h.flights) head_known.0 head_known.1 in
      omega (arith, many, long, ap length e)

  -- what a rule is asked of
  pub head_asked : (rule : KnownRule) → IsOwnRule k rule → (fs : List Flight) → HeadFlies k.case.now.book.now h fs → OnFirst (λ f. f.carrier ≡ rule.carrier) fs
  head_asked rule own fs m = subst (λ c. OnFirst (λ f. f.carrier ≡ c) fs) (sym own.carrier) (head_first k bucket h head_in head_of.path head_of.is fs m)
