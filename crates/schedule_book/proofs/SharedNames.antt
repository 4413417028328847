-- The names that several rows have.
use Rattle.std.proofs.Common.{◌≡◌, pos, ◌<◌, ℕ, ◌+◌, Bool, true, false, cond, List, [], ◌∷◌, ◌++◌, length, take, get_or, Decides, refl, sym, ap, subst, ◌∙◌, inl, inr}
use Rattle.std.specs.HashSet.{HashSet, contains}
use Rattle.std.proofs.lemmas.Bool.Decides.{Decides-like, Decides-and, Decides-eqb}
use Rattle.fare_law.specs.declared.flights.Flight.{Flight}
use Rattle.fare_law.specs.declared.rows.FlightRow.{FlightRow}
use Rattle.fare_law.specs.Flights.{Dated}
use Rattle.fare_law.specs.Lists.{IsIn}
use Rattle.fare_law.proofs.SameNames.{carriers_tell, places_tell}
use Rattle.schedule_book.specs.contracts.dated.FlightNamePartialEq.TheImpl as named
use Rattle.schedule_book.specs.declared.dated.FlightName.{FlightName}
use Rattle.schedule_book.specs.Expansions.{HasNone, HasShared, IsNamed, name_of}
use Rattle.schedule_book.proofs.RowFlights.{named_dated}
use Rattle.schedule_book.proofs.Rows.{split_push}
use Rattle.law_lemmas.proofs.Lists.{front_read, no_middle}
use Rattle.law_lemmas.proofs.Members.{in_either}
use Rattle.law_lemmas.proofs.Tests.{true_false}

pub name_tells : (a b : FlightName) → Decides (named.ghosts.eq a b) (a ≡ b)
name_tells a b =
    Decides-like _ (λ e. whole e.0 e.1.0 e.1.1) (λ e. (ap (λ x. x.carrier) e, (ap (λ x. x.number) e, ap (λ x. x.from) e)))
    (Decides-and _ _ (carriers_tell a.carrier b.carrier) (Decides-and _ _ (Decides-eqb a.number b.number) (places_tell a.from b.from)))
  where
    whole : a.carrier ≡ b.carrier → a.number ≡ b.number → a.from ≡ b.from → a ≡ b
    whole x y z = λ i. record { carrier = x i; number = y i; from = z i }

abbrev pub one_name : FlightName → FlightName → Bool
one_name = named.ghosts.eq

-- a row that is read where there is none
abbrev pub no_row : FlightRow
no_row = record { line = 0; carrier = record { 0 = [] }; number = 0; from = record { 0 = [] }; to = record { 0 = [] }; dep = 0; dep_offset = pos 0; arr = 0; arr_offset = pos 0; shift = pos 0; first = pos 0; last = pos 0; days = 0 }

-- the names of these rows are known, and those that several have are shared
pub record Names {S T : Type 0} (rows : List FlightRow) (known : HashSet FlightName S) (shared : HashSet FlightName T) : Type 0 where
  pub each : (name : FlightName) → IsNamed name rows → contains one_name known name ≡ true
  pub has : HasShared one_name rows shared

pub no_names : {S T : Type 0} (known : HashSet FlightName S) (shared : HashSet FlightName T) → Names [] known shared
no_names known shared = record { each = λ name h. absurd h.1; has = λ before row after e h. absurd (no_middle before row after e) }

-- after a set has taken a name it has it, and all that it had
abbrev pub Takes : {S : Type 0} → HashSet FlightName S → FlightName → HashSet FlightName S → Type 0
Takes old name new = (q : FlightName) → contains one_name new q ≡ cond (one_name name q) true (contains one_name old q)

pub takes_one : {S : Type 0} (old new : HashSet FlightName S) (name : FlightName) → Takes old name new → contains one_name new name ≡ true
takes_one old new name t = t name ∙ ap (λ b. cond b true (contains one_name old name)) ((name_tells name name).1 refl)

pub takes_more : {S : Type 0} (old new : HashSet FlightName S) (name : FlightName) → Takes old name new → (q : FlightName) → contains one_name old q ≡ true → contains one_name new q ≡ true
takes_more old new name t q h = t q ∙ by (one_name name q) (contains one_name old q) h
  where
    by : (b o : Bool) → o ≡ true → cond b true o ≡ true
    by true o e = refl
    by false o e = e

-- one row more
module _ {S T : Type 0} (rows : List FlightRow) (row : FlightRow) (known more : HashSet FlightName S) (shared kept : HashSet FlightName T) (n : Names rows known shared) (takes : Takes known (name_of row) more) (stays : (q : FlightName) → contains one_name shared q ≡ true → contains one_name kept q ≡ true)
    (told : contains one_name known (name_of row) ≡ true → contains one_name kept (name_of row) ≡ true) where
  pub names_more : Names (rows ++ row ∷ []) more kept
  names_more = record {
    each = λ name h. elim (in_either h.0 rows (row ∷ []) h.1) [
      | inl l ↦ takes_more known more (name_of row) takes name (n.each name (h.0, l, h.2))
      | inr s ↦ elim s [ inl q ↦ subst (λ x. contains one_name more x ≡ true) (sym (ap name_of q) ∙ h.2) (takes_one known more (name_of row) takes) | inr z ↦ absurd z ]
    ];
    has = λ before r after q h. elim (split_push rows row before r after q) [
      | inl s ↦ subst (λ x. contains one_name kept (name_of x) ≡ true) (sym s.1) (told (subst (λ x. contains one_name known (name_of x) ≡ true) s.1 (n.each (name_of r) (subst (IsNamed (name_of r)) s.0 h))))
      | inr s ↦ stays (name_of r) (n.has before r s.0 s.1 h)
    ];
  }

-- the same of the rows up to a place
pub names_next : {S T : Type 0} (rows : List FlightRow) (i : ℕ) (d row : FlightRow) (lt : i < length rows) (is : row ≡ get_or rows i d) (known more : HashSet FlightName S) (shared kept : HashSet FlightName T) → Names (take i rows) known shared → Takes known (name_of row) more
    → ((q : FlightName) → contains one_name shared q ≡ true → contains one_name kept q ≡ true) → (contains one_name known (name_of row) ≡ true → contains one_name kept (name_of row) ≡ true) → Names (take (i + 1) rows) more kept
names_next rows i d row lt is known more shared kept n takes stays told = subst (λ rs. Names rs more kept) (sym (front_read rows i d row lt is)) (names_more (take i rows) row known more shared kept n takes stays told)

-- where a row's name is not shared, no flight of the rows before has it
pub none_before : {T : Type 0} (rows before : List FlightRow) (row : FlightRow) (after : List FlightRow) (shared : HashSet FlightName T) (flights : List Flight) → HasShared one_name rows shared → rows ≡ before ++ row ∷ after
    → ((f : Flight) → IsIn f flights → (earlier : FlightRow) × IsIn earlier before × Dated earlier f) → contains one_name shared (name_of row) ≡ false → HasNone (name_of row) flights
none_before rows before row after shared flights has e from unshared f i same =
    let (earlier, j, dated) = from f i in
    true_false (has before row after e (earlier, j, sym (named_dated earlier f dated) ∙ same)) unshared
