-- Tails in order, their classes and their ends.
use Rattle.std.proofs.Common.{◌≡◌, ◌≢◌, ℕ, pos, None, ◌+◌, ◌<◌, ◌≤◌, List, [], ◌∷◌, ◌++◌, length, map, get_or, slice_get, Some, IsBitSet, refl, sym, ap, subst, ◌∙◌, inl, inr, append-nil, arith}
use Rattle.std.specs.List.Sorted.{IsPermutation}
use Rattle.std.proofs.lemmas.List.Sorted.{IsPermutation-sym}
use Rattle.fare_ends.specs.Ends.{between}
use Rattle.fare_ends.specs.NumberedFlights.{EndsWith}
use Rattle.fare_ends.specs.Legs.{HasLegs}
use Rattle.fare_ends.proofs.BitFacts.{none_set}
use Rattle.fare_ends.proofs.Reordered.{in_reordered}
use Rattle.fare_law.specs.declared.flights.Flight.{Flight}
use Rattle.fare_law.specs.declared.requests.Request.{Request}
use Rattle.fare_law.specs.Book.{Book}
use Rattle.fare_law.specs.Lists.{Each, IsIn, OnFirst}
use Rattle.fare_law.specs.Parts.{Numbers}
use Rattle.flight_paths.specs.declared.positions.Path.{Path}
use Rattle.flight_paths.specs.Marks.{HasBits}
use Rattle.flight_paths.specs.Ways.{arrivals_of}
use Rattle.joint_paths.specs.declared.tail_classes.JoinTail.{JoinTail}
use Rattle.joint_paths.specs.declared.tail_classes.NumberedPath.{NumberedPath}
use Rattle.joint_paths.specs.declared.tail_classes.OrderedTail.{OrderedTail}
use Rattle.joint_paths.specs.declared.tail_classes.TailClass.{TailClass}
use Rattle.joint_paths.specs.declared.tail_classes.TailClasses.{TailClasses}
use Rattle.joint_paths.specs.declared.tail_classes.TailEnd.{TailEnd}
use Rattle.joint_paths.specs.Ordered.{AddsOrdered, AllOrdered, AreClassesInOrder, AreEndsInOrder, AreMadeOf, AreOrderedTails, IsBeside, IsClassInOrder, IsOrdered, StandsOrdered}
use Rattle.joint_paths.specs.Tails.{AreTailClasses, IsJoinTail, IsOpen, IsShortPath, IsTailClass, IsTailOf, StandsInClass}
use Rattle.joint_paths.proofs.Ranged.{between_map, got_between, in_between}
use Rattle.fare_ends.proofs.OpenClasses.{legs_are_one}
use Rattle.law_lemmas.proofs.EachOne.{each_append, each_from, each_in, each_map, each_more}
use Rattle.law_lemmas.proofs.Ends.{last_like}
use Rattle.law_lemmas.proofs.Lists.{got_within, map_length}
use Rattle.law_lemmas.proofs.Members.{in_got, in_left, in_right}
use Rattle.law_lemmas.proofs.Numbers.{at_most_or, here_or_before}

-- what stands for a tail past the end of a list
abbrev pub no_tail : OrderedTail
no_tail = record { after = None; after_number = 0; end = record { 0 = [] }; last = pos 0; tail = record { number = 0; first = 0; count = 0; classes = 0; mark = 0 } }

-- a class ends at the place of another
abbrev pub EndsWithIt : TailClass → TailClass → Type 0
EndsWithIt one c = c.end ≡ one.end

pub beside_self : (o : OrderedTail) → IsBeside o o
beside_self o = record { end = refl; last = refl; after = refl }

-- no class of seats is open on a path on which these are open
pub none_open : (b : Book) (q : Request) (path : Path) (ns : List ℕ) (classes : ℕ) → ns ≡ path.flights → ((fs : List Flight) → Numbers b ns fs → HasLegs b q fs classes) → classes ≡ 0 → IsOpen b q path → ⊥
none_open b q path ns classes e legs z o = none_set o.class (subst (λ n. IsBitSet n o.class) z (legs_are_one b q o.flights o.classes classes o.legs (legs o.flights (subst (λ xs. Numbers b xs o.flights) (sym e) o.numbers)) o.class o.low o.open_class))

-- a short path has flights
pub path_known : (b : Book) (path : Path) (ns : List ℕ) → ns ≡ path.flights → IsShortPath b path → (fs : List Flight) × Numbers b ns fs
path_known b path ns e short = (short.flights, subst (λ xs. Numbers b xs short.flights) (sym e) short.numbers)

no_length : 1 ≤ 0 → ⊥
no_length h = omega (arith, h)

pub some_last : (b : Book) (path : Path) (ns : List ℕ) → ns ≡ path.flights → IsShortPath b path → ((fs : List Flight) → Numbers b ns fs → ns ≢ [] → ⊥) → ⊥
some_last b path ns e short none =
    let known = path_known b path ns e short in
    none known.0 known.1 (λ z. no_length (subst (λ (xs : List ℕ). 1 ≤ length xs) (sym e ∙ z) short.some))

-- the first of some numbers
pub first_read : (ns : List ℕ) (d : ℕ) → 1 ≤ length ns → OnFirst (λ n. n ≡ get_or ns 0 d) ns
first_read [] d h = absurd (omega (arith, h))
first_read (n ∷ ns) d h = refl

-- A tail is added, if it is open.
module _ (b : Book) (q : Request) (t : NumberedPath) (old : List OrderedTail) where
  pub unknown_tail : (IsOpen b q t.path.now → ⊥) → AddsOrdered b q t old old
  unknown_tail none = record { more = []; joined = sym (append-nil old); each = tt; has = λ o. absurd (none o) }

  pub open_tail : (o : OrderedTail) (new : List OrderedTail) → new ≡ old ++ o ∷ [] → IsOrdered b q t o → AddsOrdered b q t old new
  open_tail o new e is = record { more = o ∷ []; joined = e; each = (is, tt); has = λ open_path. (o, inl refl) }

-- So of the tails of some paths.
module _ (b : Book) (q : Request) (paths : List Path) (n : ℕ) (t : NumberedPath) (number : t.number ≡ n) (got : slice_get paths n ≡ Some t.path.now) (short : IsShortPath b t.path.now) (old new : List OrderedTail) (h : AddsOrdered b q t old new) where
  pub added_each : Each (StandsOrdered b q paths) old → Each (StandsOrdered b q paths) new
  added_each k = subst (Each (StandsOrdered b q paths)) (sym h.joined) (each_append (StandsOrdered b q paths) old h.more k (each_from (StandsOrdered b q paths) h.more (λ o i.
      let is = each_in (IsOrdered b q t) h.more o h.each i in
      record {
        path = t.path.now;
        stands = ap (slice_get paths) (is.number ∙ number) ∙ got;
        short = short;
        first = is.first;
        count = is.count;
        legs = is.legs;
        mark = is.mark;
        leads = is.leads;
        ends = is.ends;
      })))

  pub added_all : AllOrdered b q paths n old → AllOrdered b q paths (n + 1) new
  added_all k m path lt there open_path = elim (here_or_before m n lt) [
    | inl before ↦ let x = k m path before there open_path in (x.0, subst (IsIn x.0) (sym h.joined) (in_left x.0 old h.more x.1), x.2)
    | inr same ↦
        let one = path_same path t.path.now (sym there ∙ ap (slice_get paths) same ∙ got) in
        let x = h.has (subst (IsOpen b q) one open_path) in
        let is = each_in (IsOrdered b q t) h.more x.0 h.each x.1 in
        (x.0, subst (IsIn x.0) (sym h.joined) (in_right x.0 old h.more x.1), is.number ∙ number ∙ sym same)
  ]
    where
      path_same : (x y : Path) → Some x ≡ Some y → x ≡ y
      path_same x y e = cc

-- all are there once each number was passed
pub all_of : (b : Book) (q : Request) (paths : List Path) (ordered : List OrderedTail) (n : ℕ) → length paths ≤ n → Each (StandsOrdered b q paths) ordered → AllOrdered b q paths n ordered → AreOrderedTails b q paths ordered
all_of b q paths ordered n le each all = record { each = each; all = λ m path lt got open_path. all m path (omega (arith, le, lt)) got open_path }

-- What is known of a tail with where it leads and its last flight.
module _ (b : Book) (q : Request) (t : NumberedPath) (ns : List ℕ) (numbers_are : ns ≡ t.path.now.flights) (j : JoinTail) (o : OrderedTail) (last : Flight) (classes mark : ℕ) (same : o.tail ≡ j) (classes_are : j.classes ≡ classes) (mark_is : j.mark ≡ mark) where
  own : (fs : List Flight) → Numbers b t.path.now.flights fs → Numbers b ns fs
  own fs m = subst (λ xs. Numbers b xs fs) (sym numbers_are) m

  pub ordered_as : j.number ≡ t.number → OnFirst (λ n. n ≡ j.first) ns → j.count ≡ length ns → ((fs : List Flight) → Numbers b ns fs → HasLegs b q fs classes) → ((fs : List Flight) → Numbers b ns fs → HasBits mark (arrivals_of fs)) → o.after ≡ t.path.now.after
      → EndsWith b ns last → o.end ≡ last.to → o.last ≡ last.day → IsOrdered b q t o
  ordered_as number first count legs marks leads ends to day = record {
    number = ap (λ (x : JoinTail). x.number) same ∙ number;
    first = subst (λ (x : JoinTail). OnFirst (λ n. n ≡ x.first) t.path.now.flights) (sym same) (subst (OnFirst (λ n. n ≡ j.first)) numbers_are first);
    count = ap (λ (x : JoinTail). x.count) same ∙ count ∙ ap length numbers_are;
    legs = λ fs m. subst (HasLegs b q fs) (sym (ap (λ (x : JoinTail). x.classes) same ∙ classes_are)) (legs fs (own fs m));
    mark = λ fs m. subst (λ n. HasBits n (arrivals_of fs)) (sym (ap (λ (x : JoinTail). x.mark) same ∙ mark_is)) (marks fs (own fs m));
    leads = sym leads;
    ends = λ fs m. last_like (λ f. f ≡ last) (λ f. (f.to ≡ o.end) × (f.day ≡ o.last)) fs (ends fs (own fs m)) (λ f e. (ap (λ (x : Flight). x.to) e ∙ sym to, ap (λ (x : Flight). x.day) e ∙ sym day));
  }

-- A class that ends where the next begins.
module _ (ordered : List OrderedTail) (classes : List TailClass) (c : TailClass) where
  pub class_each : Each (IsClassInOrder ordered) classes → IsClassInOrder ordered c → Each (IsClassInOrder ordered) (classes ++ c ∷ [])
  class_each h k = each_more (IsClassInOrder ordered) classes c h k

  pub class_all : ((n : ℕ) → n < c.from → (d : TailClass) × IsIn d classes × (d.from ≤ n) × (n < d.to)) → (n : ℕ) → n < c.to → (d : TailClass) × IsIn d (classes ++ c ∷ []) × (d.from ≤ n) × (n < d.to)
  class_all h n lt = elim (at_most_or c.from n) [
    | inl le ↦ (c, in_right c classes (c ∷ []) (inl refl), le, lt)
    | inr less ↦ let d = h n less in (d.0, in_left d.0 classes (c ∷ []) d.1, d.2, d.3)
  ]

module _ (classes : List TailClass) (ends : List TailEnd) (e : TailEnd) where
  pub end_all : ((n : ℕ) → n < e.from → (d : TailEnd) × IsIn d ends × (d.from ≤ n) × (n < d.to)) → (n : ℕ) → n < e.to → (d : TailEnd) × IsIn d (ends ++ e ∷ []) × (d.from ≤ n) × (n < d.to)
  end_all h n lt = elim (at_most_or e.from n) [
    | inl le ↦ (e, in_right e ends (e ∷ []) (inl refl), le, lt)
    | inr less ↦ let d = h n less in (d.0, in_left d.0 ends (e ∷ []) d.1, d.2, d.3)
  ]

-- a class of the tails beside one
pub class_of : (ordered : List OrderedTail) (c : TailClass) (one : OrderedTail) (from to : ℕ) → c.after ≡ one.after → c.end ≡ one.end → c.last ≡ one.last → c.from ≡ from → c.to ≡ to → from < to → to ≤ length ordered → Each (IsBeside one) (between ordered from to) → IsClassInOrder ordered c
class_of ordered c one from to a e l starts ends past within h = record {
  range = record { in_turn = omega (arith, past, starts, ends); within = omega (arith, within, ends) };
  each = subst (λ n. Each (λ (o : OrderedTail). (o.after ≡ c.after) × (o.end ≡ c.end) × (o.last ≡ c.last)) (between ordered n c.to)) (sym starts) (subst (λ n. Each (λ (o : OrderedTail). (o.after ≡ c.after) × (o.end ≡ c.end) × (o.last ≡ c.last)) (between ordered from n)) (sym ends)
      (each_from (λ (o : OrderedTail). (o.after ≡ c.after) × (o.end ≡ c.end) × (o.last ≡ c.last)) (between ordered from to) (λ o i.
      let is = each_in (IsBeside one) (between ordered from to) o h i in
      (sym is.after ∙ sym a, sym is.end ∙ sym e, sym is.last ∙ sym l))));
}

abbrev pub tail_of : OrderedTail → JoinTail
tail_of o = o.tail

-- tails in order, their classes and their ends are those of the paths
module _ (b : Book) (q : Request) (paths : List Path) (before ordered : List OrderedTail) (order : IsPermutation before ordered) (each : Each (StandsOrdered b q paths) before) (all : AllOrdered b q paths (length paths) before)
    (known : TailClasses) (tails : known.tails.items ≡ map tail_of ordered) (classes : AreClassesInOrder ordered known.classes.items) (ends : AreEndsInOrder known.classes.items known.ends.items) where
  of_before : (o : OrderedTail) → IsIn o ordered → StandsOrdered b q paths o
  of_before o i = each_in (StandsOrdered b q paths) before o each (in_reordered ordered before o (reverse order) i)
    where
      reverse : IsPermutation before ordered → IsPermutation ordered before
      reverse p = IsPermutation-sym before ordered p

  join_tail : (o : OrderedTail) → StandsOrdered b q paths o → IsJoinTail b q paths o.tail
  join_tail o s = record { path = s.path; stands = s.stands; short = s.short; first = s.first; count = s.count; legs = s.legs; mark = s.mark }

  class_tail : (c : TailClass) (o : OrderedTail) → (o.after ≡ c.after) × (o.end ≡ c.end) × (o.last ≡ c.last) → StandsOrdered b q paths o → IsTailOf b paths c o.tail
  class_tail c o is s = record {
    path = s.path;
    stands = s.stands;
    leads = s.leads ∙ is.0;
    ends = λ fs m. last_like (λ f. (f.to ≡ o.end) × (f.day ≡ o.last)) (λ f. (f.to ≡ c.end) × (f.day ≡ c.last)) fs (s.ends fs m) (λ f e. (e.0 ∙ is.1, e.1 ∙ is.2));
  }

  one_class : (c : TailClass) → IsClassInOrder ordered c → IsTailClass b q paths known.tails.items c
  one_class c h =
      let long = ap length tails ∙ map_length tail_of ordered in
      record {
        range = record { in_turn = h.range.in_turn; within = let w = h.range.within in omega (arith, long, w) };
        each = subst (Each (λ t. IsJoinTail b q paths t × IsTailOf b paths c t)) (sym (ap (λ ts. between ts c.from c.to) tails ∙ between_map tail_of ordered c.from c.to))
            (each_map tail_of (λ t. IsJoinTail b q paths t × IsTailOf b paths c t) (between ordered c.from c.to) (each_from (λ o. IsJoinTail b q paths o.tail × IsTailOf b paths c o.tail) (between ordered c.from c.to) (λ o i.
            let s = of_before o (in_between ordered c.from c.to o i) in
            (join_tail o s, class_tail c o (each_in (λ (o : OrderedTail). (o.after ≡ c.after) × (o.end ≡ c.end) × (o.last ≡ c.last)) (between ordered c.from c.to) o h.each i) s))));
      }

  stands : (n : ℕ) (o : OrderedTail) → IsIn o ordered → o.tail.number ≡ n → StandsInClass known n
  stands n o i e =
      let at = in_got ordered o i in
      let c = classes.all at.0 (got_within ordered at.0 o at.1) in
      let m = in_got known.classes.items c.0 c.1 in
      let e2 = ends.all m.0 (got_within known.classes.items m.0 c.0 m.1) in
      record {
        end = e2.0;
        end_in = e2.1;
        class = c.0;
        class_in = got_between known.classes.items e2.0.from e2.0.to m.0 c.0 m.1 e2.2 e2.3;
        tail = o.tail;
        tail_in = subst (IsIn o.tail) (sym (ap (λ ts. between ts c.0.from c.0.to) tails ∙ between_map tail_of ordered c.0.from c.0.to)) (in_mapped (between ordered c.0.from c.0.to) o (got_between ordered c.0.from c.0.to at.0 o at.1 c.2 c.3));
        number = e;
      }
    where
      in_mapped : (os : List OrderedTail) (o : OrderedTail) → IsIn o os → IsIn (tail_of o) (map tail_of os)
      in_mapped [] o i = absurd i
      in_mapped (x ∷ xs) o (inl e) = inl (ap tail_of e)
      in_mapped (x ∷ xs) o (inr i) = inr (in_mapped xs o i)

  own_classes : AreTailClasses b q paths known
  own_classes = record {
    classes = each_from (IsTailClass b q paths known.tails.items) known.classes.items (λ c i. one_class c (each_in (IsClassInOrder ordered) known.classes.items c classes.each i));
    ends = ends.each;
    all = λ n path got open_path. let o = all n path (got_within paths n path got) got open_path in stands n o.0 (in_reordered before ordered o.0 order o.1) o.2;
  }

-- so are those that were made of them
pub tails_made : (b : Book) (q : Request) (paths : List Path) (before : List OrderedTail) (known : TailClasses) → AreOrderedTails b q paths before → AreMadeOf before known → AreTailClasses b q paths known
tails_made b q paths before known h made = own_classes b q paths before made.ordered made.order h.each h.all known made.tails made.classes made.ends
