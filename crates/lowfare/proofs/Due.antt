-- A call whose counts didn't rise has the status that is due.
use Rattle.std.proofs.Common.{◌≡◌, ◌⊎◌, ◌<◌, ℕ, List, length, Option, Some, refl, sym, ap, subst, ◌∙◌, inl, inr, arith}
use Rattle.fare_io.specs.Streams.{ReadsPast, ReadsWhole}
use Rattle.lowfare.specs.Complete.{IsComplete, NoneRose}
use Rattle.lowfare.specs.Inputs.{Gets, IsInput, most_bytes}
use Rattle.lowfare.specs.Lines.{AreLine, AskForInput, Asks, Carried, TakesInput}
use Rattle.lowfare.specs.Makes.{Owes}
use Rattle.lowfare.specs.Says.{Due, Ends, Says}
use Rattle.lowfare.specs.declared.status.Status.{Status}
use Rattle.lowfare.specs.declared.status.Status.TheVariants.{Done, Refused, Usage, ReadFault, WriteFault, OutOfMemory, TooLarge, No, TooLong}
use Rattle.lowfare.proofs.Owing.{made_owed}
use Rattle.program_words.specs.declared.commands.Command.{Command}
use Rattle.program_words.specs.declared.commands.Command.TheVariants.{Search, Check, Make, Serve, Calendar, Verdict}
use Rattle.law_lemmas.proofs.Options.{some_same}

-- of one input a command owes one status
abbrev OneOwed : Type 0
OneOwed = (c : Command) (bytes : List ℕ) (status due : Status) → Owes c bytes status → Owes c bytes due → status ≡ due

-- memory ran out, or a text is due with the status
settled : (carries : Carried) (status : Status) (words : List (List ℕ)) (left left' held held' : Option (List ℕ)) (r r' w w' s s' : ℕ) → NoneRose r r' w w' s s' → Says carries status words left left' held held' r r' w w' s s'
    → (status ≡ OutOfMemory) ⊎ ((text : List ℕ) × Due carries status words left left' text)
settled carries Done words left left' held held' r r' w w' s s' n h = inr (h.text, h.due)
settled carries Refused words left left' held held' r r' w w' s s' n h = inr (h.text, h.due)
settled carries Usage words left left' held held' r r' w w' s s' n h = inr (h.text, h.due)
settled carries TooLarge words left left' held held' r r' w w' s s' n h = inr (h.text, h.due)
settled carries No words left left' held held' r r' w w' s s' n h = inr (h.text, h.due)
settled carries TooLong words left left' held held' r r' w w' s s' n h = inr (h.text, h.due)
settled carries ReadFault words left left' held held' r r' w w' s s' n h = absurd (n.reads h.1)
settled carries WriteFault words left left' held held' r r' w w' s s' n h = elim h.cause [ inl a ↦ absurd (n.writes a) | inr b ↦ absurd (n.stalls b) ]
settled carries OutOfMemory words left left' held held' r r' w w' s s' n h = inl refl

-- what a text that is due says of its status: it is one of words, of too many bytes, or of a command
abbrev Cause : Carried → Status → List (List ℕ) → Option (List ℕ) → Option (List ℕ) → List ℕ → Type 0
Cause carries status words left left' text =
    ((status ≡ Usage) × (AreLine carries words → ⊥)) ⊎ (((status ≡ TooLong) × AskForInput carries words × ReadsPast left left' most_bytes) ⊎ Ends carries status words left left' text)

cause_of : (carries : Carried) (status : Status) (words : List (List ℕ)) (left left' : Option (List ℕ)) (text : List ℕ) → Due carries status words left left' text → Cause carries status words left left' text
cause_of carries Done words left left' text d = inr (inr d)
cause_of carries Refused words left left' text d = inr (inr d)
cause_of carries TooLarge words left left' text d = inr (inr d)
cause_of carries No words left left' text d = inr (inr d)
cause_of carries Usage words left left' text d = inl (refl, d.0)
cause_of carries TooLong words left left' text d = inr (inl (refl, d.0, d.1))
cause_of carries ReadFault words left left' text d = absurd d
cause_of carries WriteFault words left left' text d = absurd d
cause_of carries OutOfMemory words left left' text d = absurd d

-- all bytes were read, and they are these
read_are : (left left' : Option (List ℕ)) (read bytes : List ℕ) → ReadsWhole left left' read → left ≡ Some bytes → read ≡ bytes
read_are left left' read bytes h e = (subst (λ x. ReadsWhole x left' read) e h).0

too_many : (left left' : Option (List ℕ)) (bytes : List ℕ) → ReadsPast left left' most_bytes → left ≡ Some bytes → most_bytes < length bytes
too_many left left' bytes h e = (subst (λ x. ReadsPast x left' most_bytes) e h).0

-- two command lines of the same words are one
line_same : (carries : Carried) (words : List (List ℕ)) (c d : Command) → Asks carries words c → Asks carries words d → c ≡ d
line_same carries words c d h k = some_same c d (sym h.line ∙ k.line)

-- a command reads an input or none
reads_or_none : (c : Command) → TakesInput c ⊎ (TakesInput c → ⊥)
reads_or_none (Search best budget at) = inl tt
reads_or_none (Check best at) = inl tt
reads_or_none (Make seed size is_summary) = inr (λ h. h)
reads_or_none (Serve best budget) = inl tt
reads_or_none (Calendar outs backs budget at) = inl tt
reads_or_none (Verdict at) = inl tt

-- the input was what the command gets
input_is : (c : Command) (left left' : Option (List ℕ)) (read bytes : List ℕ) → IsInput c left left' read → Gets c left bytes → read ≡ bytes
input_is c left left' read bytes h g = elim (reads_or_none c) [
  | inl takes ↦ read_are left left' read bytes (h.read takes).whole (g.read takes).known
  | inr not ↦ (h.none not).empty ∙ sym (g.none not)
]

module _ (carries : Carried) (one : OneOwed) (status : Status) (words : List (List ℕ)) (left left' : Option (List ℕ)) (text : List ℕ) where
  of_words : Cause carries status words left left' text → (AreLine carries words → ⊥) → status ≡ Usage
  of_words (inl (e, n)) none = e
  of_words (inr (inl (e, line, past))) none = absurd (none (line.0, line.1))
  of_words (inr (inr d)) none = absurd (none (d.command, d.asked))

  of_length : Cause carries status words left left' text → (bytes : List ℕ) → AskForInput carries words → left ≡ Some bytes → most_bytes < length bytes → status ≡ TooLong
  of_length (inl (e, n)) bytes line known long = absurd (n (line.0, line.1))
  of_length (inr (inl (e, also, past))) bytes line known long = e
  of_length (inr (inr d)) bytes line known long =
      let takes = subst TakesInput (line_same carries words line.0 d.command line.1 d.asked) line.2 in
      let read = d.input.read takes in
      let same = ap length (read_are left left' d.bytes bytes read.whole known) in
      absurd (omega (arith, read.fits, same, long))

  of_command : Cause carries status words left left' text → (c : Command) (bytes : List ℕ) (due : Status) → Asks carries words c → Gets c left bytes → Owes c bytes due → status ≡ due
  of_command (inl (e, n)) c bytes due asks gets owes = absurd (n (c, asks))
  of_command (inr (inl (e, also, past))) c bytes due asks gets owes =
      let within = gets.read (subst TakesInput (line_same carries words also.0 c also.1 asks) also.2) in
      absurd (omega (arith, too_many left left' bytes past within.known, within.fits))
  of_command (inr (inr d)) c bytes due asks gets owes =
      let line = line_same carries words d.command c d.asked asks in
      let input = subst (λ x. IsInput x left left' d.bytes) line d.input in
      let made = made_owed d.command d.bytes status text d.made in
      one c bytes status due (subst (λ x. Owes c x status) (input_is c left left' d.bytes bytes input gets) (subst (λ x. Owes x d.bytes status) line made)) owes

pub complete : (carries : Carried) → OneOwed → (status : Status) (words : List (List ℕ)) (left left' held held' : Option (List ℕ)) (r r' w w' s s' : ℕ) → Says carries status words left left' held held' r r' w w' s s'
    → NoneRose r r' w w' s s' → IsComplete carries status words left
complete carries one status words left left' held held' r r' w w' s s' says none = by (settled carries status words left left' held held' r r' w w' s s' none says)
  where
    by : (status ≡ OutOfMemory) ⊎ ((text : List ℕ) × Due carries status words left left' text) → IsComplete carries status words left
    by (inl e) = record { usage = λ n. inr e; long = λ bytes line known long. inr e; owed = λ c bytes due asks gets owes. inr e }
    by (inr (text, due)) =
        let cause = cause_of carries status words left left' text due in
        record {
          usage = λ n. inl (of_words carries one status words left left' text cause n);
          long = λ bytes line known long. inl (of_length carries one status words left left' text cause bytes line known long);
          owed = λ c bytes due asks gets owes. inl (of_command carries one status words left left' text cause c bytes due asks gets owes);
        }
