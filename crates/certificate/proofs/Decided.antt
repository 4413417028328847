-- Whether two moves are one, whether moves begin with others, and whether an answer takes a move, is decided.
use Rattle.std.proofs.Common.{◌≡◌, ◌⊎◌, ℕ, Bool, true, false, Decides, bytes_eq, List, [], ◌∷◌, ◌++◌, sym, refl, ap, ap₂, ◌∙◌, inl, inr, append_assoc}
use Rattle.std.proofs.lemmas.Bool.{cases_eq}
use Rattle.std.proofs.lemmas.Bool.Decides.{not_from_Decides}
use Rattle.std.proofs.lemmas.Slice.Eq.{bytes_eq-Decides}
use Rattle.certificate.specs.declared.parts.CertAnswer.{CertAnswer}
use Rattle.certificate.specs.DepartureCheck.{NoneTakes}
use Rattle.fare_law.specs.declared.moves.Move.{Move}
use Rattle.fare_law.specs.declared.moves.Role.{Role}
use Rattle.fare_law.specs.declared.moves.Role.TheVariants.{Alone, Opens, GoesOn, Closes}
use Rattle.fare_law.specs.Lists.{IsIn}

abbrev Decided : {X : Type 0} → X → X → Type 0
Decided x y = (x ≡ y) ⊎ (x ≡ y → ⊥)

tested : {P : Type 0} (b : Bool) → Decides b P → P ⊎ (P → ⊥)
tested true d = inl (d.0 refl)
tested false d = inr (not_from_Decides false d refl)

numbers_decided : (xs ys : List ℕ) → Decided xs ys
numbers_decided xs ys = tested (bytes_eq xs ys) (bytes_eq-Decides xs ys)

roles_decided : (r s : Role) → Decided r s
roles_decided Alone Alone = inl refl
roles_decided Alone Opens = inr (λ e. cc)
roles_decided Alone GoesOn = inr (λ e. cc)
roles_decided Alone Closes = inr (λ e. cc)
roles_decided Opens Alone = inr (λ e. cc)
roles_decided Opens Opens = inl refl
roles_decided Opens GoesOn = inr (λ e. cc)
roles_decided Opens Closes = inr (λ e. cc)
roles_decided GoesOn Alone = inr (λ e. cc)
roles_decided GoesOn Opens = inr (λ e. cc)
roles_decided GoesOn GoesOn = inl refl
roles_decided GoesOn Closes = inr (λ e. cc)
roles_decided Closes Alone = inr (λ e. cc)
roles_decided Closes Opens = inr (λ e. cc)
roles_decided Closes GoesOn = inr (λ e. cc)
roles_decided Closes Closes = inl refl

moves_decided : (m n : Move) → Decided m n
moves_decided m n = elim (numbers_decided m.flights n.flights) [
  | inr ne ↦ inr (λ h. ne (ap (λ z. z.flights) h))
  | inl a ↦ elim (numbers_decided m.carrier.0 n.carrier.0) [
    | inr ne ↦ inr (λ h. ne (ap (λ z. z.carrier.0) h))
    | inl c ↦ elim (numbers_decided m.basis.0 n.basis.0) [
      | inr ne ↦ inr (λ h. ne (ap (λ z. z.basis.0) h))
      | inl d ↦ elim (roles_decided m.role n.role) [
        | inr ne ↦ inr (λ h. ne (ap (λ z. z.role) h))
        | inl e ↦ elim (cases_eq m.slot n.slot) [
          | inr ne ↦ inr (λ h. ne (ap (λ z. z.slot) h))
          | inl f ↦ inl (λ i. record { flights = a i; carrier = record { 0 = c i }; basis = record { 0 = d i }; role = e i; slot = f i })
        ]
      ]
    ]
  ]
]

pub front_decided : (xs ys : List Move) → ((rest : List Move) × (ys ≡ xs ++ rest)) ⊎ ((rest : List Move) → ys ≡ xs ++ rest → ⊥)
front_decided [] ys = inl (ys, refl)
front_decided (x ∷ xs) [] = inr (λ rest e. cc)
front_decided (x ∷ xs) (y ∷ ys) = elim (moves_decided y x) [
  | inr ne ↦ inr (λ rest e. ne (head_same rest e))
  | inl same ↦ elim (front_decided xs ys) [
    | inl h ↦ inl (h.0, ap₂ (λ z zs. z ∷ zs) same h.1)
    | inr never ↦ inr (λ rest e. never rest (tail_same rest e))
  ]
]
  where
    head_same : (rest : List Move) → y ∷ ys ≡ (x ∷ xs) ++ rest → y ≡ x
    head_same rest e = cc

    tail_same : (rest : List Move) → y ∷ ys ≡ (x ∷ xs) ++ rest → ys ≡ xs ++ rest
    tail_same rest e = cc

-- whether an answer that begins with this front takes this move then is decided
pub taken_decided : (answers : List CertAnswer) (front : List Move) (m : Move) → ((a : CertAnswer) × (rest : List Move) × IsIn a answers × (a.moves ≡ front ++ m ∷ rest)) ⊎ NoneTakes answers front m
taken_decided [] front m = inr (λ a rest i e. i)
taken_decided (a ∷ answers) front m = elim (front_decided (front ++ m ∷ []) a.moves) [
  | inl h ↦ inl (a, h.0, inl refl, h.1 ∙ append_assoc front (m ∷ []) h.0)
  | inr never ↦ elim (taken_decided answers front m) [
    | inl h ↦ inl (h.0, h.1, inr h.2, h.3)
    | inr none ↦ inr (λ c rest i e. elim i [
      | inl same ↦ never rest (ap (λ z. z.moves) (sym same) ∙ e ∙ sym (append_assoc front (m ∷ []) rest))
      | inr i ↦ none c rest i e
    ])
  ]
]
