-- What is known of the tails of a class, as it is found.
use Rattle.std.proofs.Common.{◌≡◌, ◌≢◌, ◌⊎◌, ℕ, zero, suc, ◌+◌, ◌<◌, ◌≤◌, List, [], ◌∷◌, ◌++◌, length, set, slice_get, vec_items, Some, None, IfSome, bit_and, bit_or, IsBitSet, refl, sym, ap, subst, ◌∙◌, inl, inr, append-nil, append_assoc, length-append, arith}
use Rattle.std.proofs.lemmas.List.{length-set}
use Rattle.fare_ends.specs.Ends.{IsRange, between}
use Rattle.fare_ends.specs.Legs.{AreAmong}
use Rattle.fare_law.specs.Lists.{Each, IsIn, IsPrefix}
use Rattle.joint_paths.specs.declared.buckets.Bucket.{Bucket}
use Rattle.joint_paths.specs.declared.crossing_heads.CrossingHead.{CrossingHead}
use Rattle.joint_paths.specs.declared.fitting.Fitting.{Fitting}
use Rattle.joint_paths.specs.declared.fitting.FittingHead.{FittingHead}
use Rattle.joint_paths.specs.declared.fitting.HeadRange.{HeadRange}
use Rattle.joint_paths.specs.declared.fitting.TailFit.{TailFit}
use Rattle.joint_paths.specs.declared.tail_classes.JoinTail.{JoinTail}
use Rattle.joint_paths.specs.Fits.{AddsFitting, AreTailFits, HasFitting, IsFitting, IsListed, IsTailFit}
use Rattle.joint_paths.specs.Heads.{FollowsOn, HasOpen}
use Rattle.joint_paths.proofs.Ranged.{set_got}
use Rattle.fare_ends.proofs.OpenClasses.{among_each, among_left, among_right}
use Rattle.fare_ends.proofs.BitFacts.{none_set}
use Rattle.fare_ends.proofs.Ranges.{between_last, between_more, range_last, range_more}
use Rattle.law_lemmas.proofs.EachOne.{each_append, each_in}
use Rattle.law_lemmas.proofs.Lists.{got_read, got_within}
use Rattle.law_lemmas.proofs.Members.{got_in, in_got, in_left, in_right}
use Rattle.law_lemmas.proofs.Numbers.{here_or_before}
use Rattle.law_lemmas.proofs.Options.{if_some, some_same}

-- Of so many tails it is known which classes may be open; no heads are listed.
pub record AreTurned (k : Bucket) (tails : List JoinTail) (count : ℕ) (fits : List TailFit) (whole : ℕ) : Type 0 where
  pub many : length fits ≡ count
  pub within : count ≤ length tails
  pub each : (at : ℕ) (t : JoinTail) (fit : TailFit) → slice_get tails at ≡ Some t → slice_get fits at ≡ Some fit → HasOpen k t fit.classes × AreAmong fit.classes whole × (fit.listed ≡ None)

pub turned_none : (k : Bucket) (tails : List JoinTail) → AreTurned k tails 0 [] 0
turned_none k tails = record { many = refl; within = omega arith; each = λ at t fit e f. absurd (cc) }

either : {X : Type 0} (xs : List X) (y : X) (n : ℕ) (x : X) → slice_get (xs ++ y ∷ []) n ≡ Some x → (slice_get xs n ≡ Some x) ⊎ ((n ≡ length xs) × (x ≡ y))
either [] y zero x e = inr (refl, some_same x y (sym e))
either [] y (suc n) x e = absurd (cc)
either (z ∷ zs) y zero x e = inl e
either (z ∷ zs) y (suc n) x e = elim (either zs y n x e) [ inl h ↦ inl h | inr r ↦ inr (ap suc r.0, r.1) ]

-- one tail more
pub turned_more : (k : Bucket) (tails : List JoinTail) (count : ℕ) (fits : List TailFit) (whole : ℕ) (t : JoinTail) (fit : TailFit) → AreTurned k tails count fits whole → slice_get tails count ≡ Some t → HasOpen k t fit.classes → fit.listed ≡ None
    → AreTurned k tails (count + 1) (fits ++ fit ∷ []) (bit_or whole fit.classes)
turned_more k tails count fits whole t fit h at open_classes none = record {
  many = length-append fits (fit ∷ []) ∙ ap (λ n. n + 1) h.many;
  within = let w = got_within tails count t at in omega (arith, w);
  each = λ n u f got there. elim (either fits fit n f there) [
    | inl old ↦ let x = h.each n u f got old in (x.0, among_each f.classes whole (bit_or whole fit.classes) x.1 (among_left whole fit.classes), x.2)
    | inr new ↦
        let same = some_same t u (sym at ∙ ap (slice_get tails) (sym (new.0 ∙ h.many)) ∙ got) in
        subst (λ (z : TailFit). HasOpen k u z.classes × AreAmong z.classes (bit_or whole fit.classes) × (z.listed ≡ None)) (sym new.1) (subst (λ v. HasOpen k v fit.classes) same open_classes, among_right whole fit.classes, none)
  ];
}

pub turned_all : (k : Bucket) (tails : List JoinTail) (count : ℕ) (known : Fitting) → length tails ≤ count → AreTurned k tails count known.tails.items known.whole → AreTailFits k tails known
turned_all k tails count known all h = record {
  many = let m = h.many in let w = h.within in omega (arith, m, w, all);
  each = λ at t fit got there.
      let x = h.each at t fit got there in
      record { classes = x.0; among = x.1; listed = subst (λ o. IfSome o (IsListed k t known.heads.items)) (sym x.2) tt };
}

-- a head that fits is added
pub adds_one : (k : Bucket) (t : JoinTail) (at : ℕ) (old new : List FittingHead) (f : FittingHead) → new ≡ old ++ f ∷ [] → IsFitting k t f → f.head ≡ at → AddsFitting k t at old new
adds_one k t at old new f joined is same = record { more = f ∷ []; joined = joined; each = (is, tt); has = λ h got on ne. (f, inl refl, same) }

-- and one that doesn't isn't
pub adds_none : (k : Bucket) (t : JoinTail) (at : ℕ) (old : List FittingHead) → ((h : CrossingHead) → slice_get k.heads.now at ≡ Some h → FollowsOn k h t → bit_and h.classes t.classes ≢ 0 → ⊥) → AddsFitting k t at old old
adds_none k t at old none = record { more = []; joined = sym (append-nil old); each = tt; has = λ h got on ne. absurd (none h got on ne) }

-- The heads that fit among the first so many were added, and nothing else is new.
pub record ListsHeads (k : Bucket) (t : JoinTail) (count : ℕ) (old new : Fitting) : Type 0 where
  pub more : List FittingHead
  pub joined : new.heads.items ≡ old.heads.items ++ more
  pub each : Each (IsFitting k t) more
  pub has : HasFitting k t count more
  pub tails : new.tails ≡ old.tails
  pub whole : new.whole ≡ old.whole
  pub charges : new.charges ≡ old.charges

pub lists_none : (k : Bucket) (t : JoinTail) (known : Fitting) → ListsHeads k t 0 known known
lists_none k t known = record {
  more = [];
  joined = sym (append-nil known.heads.items);
  each = tt;
  has = λ n h lt got f ne. absurd (omega (arith, lt));
  tails = refl;
  whole = refl;
  charges = refl;
}

-- one head more
pub lists_more : (k : Bucket) (t : JoinTail) (count : ℕ) (old mid new : Fitting) → ListsHeads k t count old mid → AddsFitting k t count mid.heads.items new.heads.items → new.tails ≡ mid.tails → new.whole ≡ mid.whole → new.charges ≡ mid.charges
    → ListsHeads k t (count + 1) old new
lists_more k t count old mid new l a ts w cs = record {
  more = l.more ++ a.more;
  joined = a.joined ∙ ap (λ xs. xs ++ a.more) l.joined ∙ append_assoc old.heads.items l.more a.more;
  each = each_append (IsFitting k t) l.more a.more l.each a.each;
  has = λ n h lt got f ne. elim (here_or_before n count lt) [
    | inl before ↦ let x = l.has n h before got f ne in (x.0, in_left x.0 l.more a.more x.1, x.2)
    | inr same ↦
        let x = a.has h (ap (slice_get k.heads.now) (sym same) ∙ got) f ne in
        (x.0, in_right x.0 l.more a.more x.1, x.2 ∙ sym same)
  ];
  tails = ts ∙ l.tails;
  whole = w ∙ l.whole;
  charges = cs ∙ l.charges;
}

-- what was added is behind what was there
pub lists_behind : (k : Bucket) (t : JoinTail) (count : ℕ) (old mid new : Fitting) → ListsHeads k t count old mid → IsPrefix mid.heads.items new.heads.items → IsPrefix old.heads.items new.heads.items
lists_behind k t count old mid new l p = (l.more ++ p.0, p.1 ∙ ap (λ xs. xs ++ p.0) l.joined ∙ append_assoc old.heads.items l.more p.0)

-- all that may fit are listed
pub lists_all : (k : Bucket) (t : JoinTail) (end : ℕ) (old new : Fitting) → ListsHeads k t end old new → ((n : ℕ) (h : CrossingHead) → slice_get k.heads.now n ≡ Some h → FollowsOn k h t → n < end)
    → (r : HeadRange) → r.from ≡ length old.heads.items → r.to ≡ length new.heads.items → IsListed k t new.heads.items r
lists_all k t end old new l reach r from to = record {
  range = subst (λ xs. IsRange xs r.from r.to) (sym l.joined) (range_last old.heads.items l.more r.from r.to from there);
  each = subst (Each (IsFitting k t)) (sym stands) l.each;
  all = subst (HasFitting k t (length k.heads.now)) (sym stands) (λ n h lt got f ne. l.has n h (reach n h got f) got f ne);
}
  where
    there : r.to ≡ length (old.heads.items ++ l.more)
    there = to ∙ ap length l.joined

    stands : between new.heads.items r.from r.to ≡ l.more
    stands = ap (λ xs. between xs r.from r.to) l.joined ∙ between_last old.heads.items l.more r.from r.to from there

-- what is known of a tail stays, as heads are added
stays_fit : (k : Bucket) (u : JoinTail) (old new : List FittingHead) (was is : ℕ) (fit : TailFit) → IsPrefix old new → is ≡ was → IsTailFit k u old was fit → IsTailFit k u new is fit
stays_fit k u old new was is fit grown whole x = record {
  classes = x.classes;
  among = subst (AreAmong fit.classes) (sym whole) x.among;
  listed = if_some fit.listed (IsListed k u old) (IsListed k u new) (λ r y.
      let same = between_more old new r.from r.to grown y.range in
      record {
        range = range_more old new r.from r.to grown y.range;
        each = subst (Each (IsFitting k u)) (sym same) y.each;
        all = subst (HasFitting k u (length k.heads.now)) (sym same) y.all;
      }) x.listed;
}

pub fits_stay : (k : Bucket) (tails : List JoinTail) (old new : Fitting) → AreTailFits k tails old → IsPrefix old.heads.items new.heads.items → new.tails ≡ old.tails → new.whole ≡ old.whole → AreTailFits k tails new
fits_stay k tails old new h grown same whole = record {
  many = ap length (ap vec_items same) ∙ h.many;
  each = λ at t fit got there. stays_fit k t old.heads.items new.heads.items old.whole new.whole fit grown whole (h.each at t fit got (ap (λ xs. slice_get xs at) (sym (ap vec_items same)) ∙ there));
}

-- The heads that fit before a tail are listed for it.
module _ (k : Bucket) (tails : List JoinTail) (at : ℕ) (mid new : Fitting) (t : JoinTail) (here : slice_get tails at ≡ Some t) (fits : AreTailFits k tails mid) (range : HeadRange) (listed : IsListed k t mid.heads.items range) (classes : ℕ)
    (each_open : (f : FittingHead) → IsIn f (between mid.heads.items range.from range.to) → AreAmong f.classes classes) (least_open : (more : ℕ) → ((f : FittingHead) → IsIn f (between mid.heads.items range.from range.to) → AreAmong f.classes more) → AreAmong classes more)
    (heads : new.heads.items ≡ mid.heads.items) (whole : new.whole ≡ mid.whole) (puts : new.tails.items ≡ set mid.tails.items at (record { classes = classes; listed = Some range })) where
  abbrev pub Listed : List FittingHead
  Listed = between mid.heads.items range.from range.to

  mid_fit : (fit : TailFit) × (slice_get mid.tails.items at ≡ Some fit)
  mid_fit = (_, got_read mid.tails.items at (record { classes = 0; listed = None }) (let w = got_within tails at t here in let m = fits.many in omega (arith, w, m)))

  open_all : HasOpen k t classes
  open_all h i f class lt s =
      let n = in_got k.heads.now h i in
      let g = listed.all n.0 h (got_within k.heads.now n.0 h n.1) n.1 f (λ z. none_set class (subst (λ m. IsBitSet m class) z s)) in
      let is = each_in (IsFitting k t) Listed g.0 listed.each g.1 in
      let same = some_same is.head h (sym is.stands ∙ ap (slice_get k.heads.now) g.2 ∙ n.1) in
      each_open g.0 g.1 class lt (subst (λ m. IsBitSet m class) (sym (is.classes ∙ ap (λ (x : CrossingHead). bit_and x.classes t.classes) same)) s)

  among_whole : AreAmong classes new.whole
  among_whole = subst (AreAmong classes) (sym whole) (least_open mid.whole (λ g i.
      let is = each_in (IsFitting k t) Listed g listed.each i in
      let fit = fits.each at t mid_fit.0 here mid_fit.1 in
      subst (λ m. AreAmong m mid.whole) (sym is.classes) (among_each (bit_and is.head.classes t.classes) mid_fit.0.classes mid.whole (fit.classes is.head (got_in k.heads.now g.head is.head is.stands) is.follows) fit.among)))

  pub fits_listed : AreTailFits k tails new
  fits_listed = record {
    many = ap length puts ∙ length-set mid.tails.items at (record { classes = classes; listed = Some range }) ∙ fits.many;
    each = λ n u fit got there. elim (set_got mid.tails.items at n (record { classes = classes; listed = Some range }) fit (ap (λ xs. slice_get xs n) (sym puts) ∙ there)) [
      | inl o ↦ stays_fit k u mid.heads.items new.heads.items mid.whole new.whole fit ([], heads ∙ sym (append-nil mid.heads.items)) whole (fits.each n u fit got o)
      | inr p ↦ subst (IsTailFit k u new.heads.items new.whole) (sym p.1) (subst (λ v. IsTailFit k v new.heads.items new.whole (record { classes = classes; listed = Some range })) (some_same t u (sym here ∙ ap (slice_get tails) (sym p.0) ∙ got))
          (record { classes = open_all; among = among_whole; listed = subst (λ xs. IsListed k t xs range) (sym heads) listed }))
    ];
  }
