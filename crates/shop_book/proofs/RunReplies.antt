-- What a run over memory replies, from what the run says of its source and its sink.
use Rattle.std.proofs.Common.{◌≡◌, ◌≤◌, ℕ, List, [], Option, Some, length, arith, refl, sym, subst, inl, inr}
use Rattle.fare_io.specs.Counts.{Rose}
use Rattle.lowfare.specs.Inputs.{most_bytes}
use Rattle.lowfare.specs.Lines.{IsRun}
use Rattle.lowfare.specs.Says.{Due, Ends, Says, Written}
use Rattle.lowfare.specs.declared.status.Status.{Status}
use Rattle.lowfare.specs.declared.status.Status.TheVariants.{Done, Refused, Usage, ReadFault, WriteFault, OutOfMemory, TooLarge, No, TooLong}
use Rattle.shop_book.specs.Runs.{MakesOf, Ran}

module _ (words : List (List ℕ)) (input : List ℕ) (left' : Option (List ℕ)) where
  made_of : (status : Status) (text : List ℕ) → Ends IsRun status words (Some input) left' text → MakesOf status words input text
  made_of status text h = record {
    command = h.command;
    asked = h.asked;
    bytes = h.bytes;
    read = λ takes. (((h.input.read takes).whole).0, subst (λ bytes. length bytes ≤ most_bytes) ((h.input.read takes).whole).0 (h.input.read takes).fits);
    made = h.made;
  }

  due_ran : (status : Status) (text : List ℕ) → Due IsRun status words (Some input) left' text → Ran status words input text
  due_ran Done text d = made_of Done text d
  due_ran Refused text d = made_of Refused text d
  due_ran TooLarge text d = made_of TooLarge text d
  due_ran No text d = made_of No text d
  due_ran Usage text d = (d.0, d.2)
  due_ran TooLong text d = (d.0, (d.1).0, d.2)
  due_ran ReadFault text d = absurd d
  due_ran WriteFault text d = absurd d
  due_ran OutOfMemory text d = absurd d

  -- all that an empty sink holds in the end was due
  written_ran : (status : Status) (text : List ℕ) → Written IsRun status words (Some input) left' (Some []) (Some text) → Ran status words input text
  written_ran status text h = due_ran status text (subst (Due IsRun status words (Some input) left') (sym h.whole) h.due)

  none_rose : Rose 0 0 → ⊥
  none_rose h = elim h [ inl a ↦ absurd (omega (arith, a)) | inr b ↦ absurd (omega (arith, b)) ]

  pub ran : (status : Status) (text : List ℕ) (w w' s s' : ℕ) → (status ≡ OutOfMemory → ⊥) → (status ≡ WriteFault → ⊥) → Says IsRun status words (Some input) left' (Some []) (Some text) 0 0 w w' s s' → Ran status words input text
  ran Done text w w' s s' memory fault h = written_ran Done text h
  ran Refused text w w' s s' memory fault h = written_ran Refused text h
  ran Usage text w w' s s' memory fault h = written_ran Usage text h
  ran TooLarge text w w' s s' memory fault h = written_ran TooLarge text h
  ran No text w w' s s' memory fault h = written_ran No text h
  ran TooLong text w w' s s' memory fault h = written_ran TooLong text h
  ran ReadFault text w w' s s' memory fault h = absurd (none_rose h.1)
  ran WriteFault text w w' s s' memory fault h = absurd (fault refl)
  ran OutOfMemory text w w' s s' memory fault h = absurd (memory refl)

-- so it is of a source that had the input, and of a sink that was empty
pub ran_over : (words : List (List ℕ)) (input source held sunk text : List ℕ) (left' : Option (List ℕ)) (status : Status) (w w' s s' : ℕ) → source ≡ input → held ≡ [] → text ≡ sunk → (status ≡ OutOfMemory → ⊥) → (status ≡ WriteFault → ⊥)
    → Says IsRun status words (Some source) left' (Some held) (Some sunk) 0 0 w w' s s' → Ran status words input text
ran_over words input source held sunk text left' status w w' s s' had empty whole memory fault h =
    ran words input left' status text w w' s s' memory fault
    (subst (λ t. Says IsRun status words (Some input) left' (Some []) (Some t) 0 0 w w' s s') (sym whole)
    (subst (λ was. Says IsRun status words (Some input) left' (Some was) (Some sunk) 0 0 w w' s s') empty (subst (λ bytes. Says IsRun status words (Some bytes) left' (Some held) (Some sunk) 0 0 w w' s s') had h)))
