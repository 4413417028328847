-- Leads: the outlines by which the moves of a residual count, each with a total that none of these moves is below.
use Rattle.std.specs.Prelude.{◌≡◌, ℕ, ◌+◌, ◌≤◌, List, Option, Some, None}
use Rattle.cheap_moves.specs.declared.leads.Lead.{Lead}
use Rattle.cheap_moves.specs.Within.{rest_of}
use Rattle.fare_law.specs.declared.moves.Role.{Role}
use Rattle.fare_law.specs.declared.requests.Request.{Request}
use Rattle.fare_law.specs.Book.{Book}
use Rattle.fare_law.specs.Lists.{IsIn}
use Rattle.outlines.specs.declared.outline.Entry.{Entry}
use Rattle.outlines.specs.Outlines.{Outlines, piece_of}
use Rattle.residual_keys.specs.declared.residual.Chosen.{Chosen}
use Rattle.residual_keys.specs.declared.residual.Next.{Next}
use Rattle.residual_keys.specs.Residuals.{State}
use Rattle.residual_keys.specs.Steps.{IsChosen, Leaves}

-- One of these leads has the outline of a move's component, and its total is no more than this.
pub record IsLed (b : Book) (q : Request) (r : State) (leads : List Lead) (c : Chosen) (k : IsChosen b q r c) (total : ℕ) : Type 0 where
  pub lead : Lead
  pub within : IsIn lead leads
  pub outlines : Outlines lead.outline k.after k.piece
  pub below : lead.total ≤ total

-- Each move that counts has a lead among these, whose total is no more than the move's.
abbrev pub AreLeads : Book → Request → State → (State → Option ℕ) → List Lead → Type 0
AreLeads b q r bound leads = (c : Chosen) (k : IsChosen b q r c) (rest : ℕ) → rest_of bound c.next ≡ Some rest → IsLed b q r leads c k (c.price + rest)

-- there is a total, and it is at most this
abbrev pub IsUpTo : Option ℕ → ℕ → Type 0
IsUpTo None n = ⊥
IsUpTo (Some total) n = total ≤ n

-- a component of an entry leaves this of a residual, in this role and slot
abbrev pub EntryLeaves : Request → State → Entry → Role → ℕ → Next → Type 0
EntryLeaves q r e role slot next = Leaves r e.outline.after (piece_of r.at.place q.sale e.rule e.outline) role slot next

-- no move by an entry's component in this role and slot that counts is below the total
abbrev pub LeastAs : Request → State → (State → Option ℕ) → Entry → Role → ℕ → Option ℕ → Type 0
LeastAs q r bound e role slot total = (next : Next) (rest : ℕ) → EntryLeaves q r e role slot next → rest_of bound next ≡ Some rest → IsUpTo total (e.price + rest)

-- nor one in any role and slot
abbrev pub LeastOf : Request → State → (State → Option ℕ) → Entry → Option ℕ → Type 0
LeastOf q r bound e total = (role : Role) (slot : ℕ) → LeastAs q r bound e role slot total

-- the entry's outline stands among the leads, with a total that none of its moves is below
abbrev pub HasEntry : Request → State → (State → Option ℕ) → List Lead → Entry → Type 0
HasEntry q r bound leads e = (role : Role) (slot : ℕ) (next : Next) (rest : ℕ) → EntryLeaves q r e role slot next → rest_of bound next ≡ Some rest
    → (l : Lead) × IsIn l leads × (l.outline ≡ e.outline) × (l.total ≤ e.price + rest)

-- An entry was added to the leads, where moves count by it.
pub record LeadAdded (q : Request) (r : State) (bound : State → Option ℕ) (e : Entry) (old new : List Lead) : Type 0 where
  pub stay : (l : Lead) → IsIn l old → IsIn l new
  pub has : HasEntry q r bound new e
