-- A text that was due and was written, whole or in front, makes what a status says.
use Rattle.std.proofs.Common.{◌≡◌, ◌≢◌, ◌⊎◌, ℕ, List, Option, refl, sym, subst, inl, inr}
use Rattle.std.specs.Io.KnownBytes.{Appends}
use Rattle.fare_io.specs.Counts.{Rose}
use Rattle.fare_io.specs.Streams.{AppendsFront}
use Rattle.lowfare.specs.Lines.{Carried}
use Rattle.lowfare.specs.Makes.{IsEnd}
use Rattle.lowfare.specs.Says.{Broken, Due, Ends, Says, Written}
use Rattle.lowfare.specs.declared.status.Status.{Status}
use Rattle.lowfare.specs.declared.status.Status.TheVariants.{Done, Refused, Usage, ReadFault, WriteFault, OutOfMemory, TooLarge, No, TooLong}

-- what a command ends with is due
pub due_of : (carries : Carried) (status : Status) (words : List (List ℕ)) (left left' : Option (List ℕ)) (text : List ℕ) → IsEnd status → Ends carries status words left left' text → Due carries status words left left' text
due_of carries Done words left left' text end h = h
due_of carries Refused words left left' text end h = h
due_of carries TooLarge words left left' text end h = h
due_of carries No words left left' text end h = h
due_of carries Usage words left left' text end h = absurd end
due_of carries ReadFault words left left' text end h = absurd end
due_of carries WriteFault words left left' text end h = absurd end
due_of carries OutOfMemory words left left' text end h = absurd end
due_of carries TooLong words left left' text end h = absurd end

-- no text is due with a status that writes none, and the sink's fault is no status of a text
said : (carries : Carried) (status : Status) (words : List (List ℕ)) (left left' held held' : Option (List ℕ)) (r r' w w' s s' : ℕ) → status ≢ WriteFault → Written carries status words left left' held held' → Says carries status words left left' held held' r r' w w' s s'
said carries Done words left left' held held' r r' w w' s s' apart h = h
said carries Refused words left left' held held' r r' w w' s s' apart h = h
said carries Usage words left left' held held' r r' w w' s s' apart h = h
said carries TooLarge words left left' held held' r r' w w' s s' apart h = h
said carries No words left left' held held' r r' w w' s s' apart h = h
said carries TooLong words left left' held held' r r' w w' s s' apart h = h
said carries ReadFault words left left' held held' r r' w w' s s' apart h = absurd (h.due)
said carries OutOfMemory words left left' held held' r r' w w' s s' apart h = absurd (h.due)
said carries WriteFault words left left' held held' r r' w w' s s' apart h = absurd (apart refl)

is_fault : (status : Status) → (status ≡ WriteFault) ⊎ (status ≢ WriteFault)
is_fault WriteFault = inl refl
is_fault Done = inr (λ e. cc)
is_fault Refused = inr (λ e. cc)
is_fault Usage = inr (λ e. cc)
is_fault ReadFault = inr (λ e. cc)
is_fault OutOfMemory = inr (λ e. cc)
is_fault TooLarge = inr (λ e. cc)
is_fault No = inr (λ e. cc)
is_fault TooLong = inr (λ e. cc)

pub told : (carries : Carried) (status result : Status) (words : List (List ℕ)) (left left' held held' : Option (List ℕ)) (r r' w w' s s' : ℕ) (text : List ℕ)
    → Due carries status words left left' text
    → (result ≢ WriteFault → (result ≡ status) × Appends held held' text) → (result ≡ WriteFault → AppendsFront held held' text) → (result ≡ WriteFault → Rose w w' ⊎ Rose s s')
    → Says carries result words left left' held held' r r' w w' s s'
told carries status result words left left' held held' r r' w w' s s' text due whole front cause = ended (is_fault result)
  where
    ended : (result ≡ WriteFault) ⊎ (result ≢ WriteFault) → Says carries result words left left' held held' r r' w w' s s'
    ended (inl e) =
        let broken : Broken carries words left left' held held' w w' s s' = record { status = status; text = text; due = due; front = front e; cause = cause e } in
        subst (λ st. Says carries st words left left' held held' r r' w w' s s') (sym e) broken
    ended (inr n) =
        let p = whole n in
        let written : Written carries result words left left' held held' = record { text = text; due = subst (λ st. Due carries st words left left' text) (sym p.0) due; whole = p.1 } in
        said carries result words left left' held held' r r' w w' s s' n written
