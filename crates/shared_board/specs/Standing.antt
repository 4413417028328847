-- The rule of a board. A view is what a seat shows, or nothing where it was joined away.
use Rattle.std.specs.Prelude.{◌≡◌, ◌≢◌, ℕ, ◌+◌, ◌-◌, ◌<◌, List, ◌∷◌, length, slice_index, Option, None, Some, IfSome}
use mathlib.Core.Option.{Option as Place, some}
use lib.ListN.{get_elem?}
use Rattle.atomic_table.specs.Table.{Me, State, Step, rest}
use Rattle.shared_board.specs.declared.mark.Mark.{Mark}

-- a seat that holds nothing shows this
abbrev pub free : ℕ → Mark
free number = record { number = number; held = None }

-- the same with this slot
abbrev pub holding : Mark → Option ℕ → Mark
holding m slot = record { number = m.number; held = slot }

-- the same with no slot, for a new seat
abbrev pub emptied : Option Mark → Option Mark
emptied None = None
emptied (Some m) = Some (holding m None)

-- a seat shows that it holds the slot
pub record IsHolder (views : List (Option Mark)) (seat slot : ℕ) : Type 0 where
  pub mark : Mark
  pub shown : get_elem? views seat ≡ some (Some mark)
  pub holds : mark.held ≡ Some slot

-- one seat at most shows that it holds a slot
abbrev pub AreApart : List (Option Mark) → Type 0
AreApart views = (one other slot : ℕ) → IsHolder views one slot → IsHolder views other slot → one ≡ other

module _ {S : Type 0} where
  -- the slot has its value where it lies
  pub record IsHome (homes : List (Place S)) (slot : ℕ) : Type 0 where
    pub value : S
    pub there : get_elem? homes slot ≡ some (some value)

  pub record Stands (number : ℕ) (s : State S (Option Mark)) : Type 0 where
    pub sizes : length s.words ≡ length s.homes + 1
    pub number_is : slice_index s.words 0 ≡ number
    pub views : (seat : ℕ) (view : Option Mark) → get_elem? s.views seat ≡ some view → IfSome view (λ m. m.number ≡ number)
    pub homes : (slot : ℕ) → slot < length s.homes → slice_index s.words (slot + 1) ≡ 0 → IsHome s.homes slot
    -- what a seat holds is not where it lies
    pub out : (seat slot : ℕ) → IsHolder s.views seat slot → IsHome s.homes slot → ⊥
    pub apart : AreApart s.views

  -- the seat has taken the slot, and shows it
  pub record HasTaken (slot : ℕ) (before after : Me S (Option Mark)) : Type 0 where
    pub value : S
    pub view : IfSome before.0 (λ m. after.0 ≡ Some (holding m (Some slot)))
    pub slots : after.1 ≡ (slot, value) ∷ before.1

  -- where a slot's word was 0, the seat has its slot; else nothing changed
  pub record Found (st : Step S) (before : Me S (Option Mark)) (found : ℕ) (after : Me S (Option Mark)) : Type 0 where
    pub some : found ≡ 0 → HasTaken (st.word - 1) before after
    pub none : found ≢ 0 → after ≡ before

  abbrev pub Puts : Step S → Me S (Option Mark) → ℕ → Me S (Option Mark) → Type 0
  Puts st before found after = after ≡ (emptied before.0, rest before.1)

  abbrev pub IsNumber : Step S → Me S (Option Mark) → ℕ → Me S (Option Mark) → Type 0
  IsNumber st before found after = (after ≡ before) × IfSome before.0 (λ m. found ≡ m.number)
