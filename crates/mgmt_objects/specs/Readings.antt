-- What a reader answers.
use Rattle.std.specs.Prelude.{◌≡◌, ◌⊎◌, Option, Some, None, Result, MatchResult}
use Rattle.rollout_model.specs.declared.refusal.Refusal.{Refusal}
use Rattle.rollout_model.specs.declared.refusal.Refusal.TheVariants.{BadRequest, NoMemory}

-- memory ran out, or there is nothing to be read
abbrev pub IsReadingFault : {A : Type 0} → Option A → Refusal → Type 0
IsReadingFault expected e = (e ≡ NoMemory) ⊎ ((e ≡ BadRequest) × (expected ≡ None))

-- the value, or a bad request exactly where there is none; in place of either, want of memory
abbrev pub ReadsAs : {A : Type 0} → Option A → Result A Refusal → Type 0
ReadsAs expected result = MatchResult result (λ v. expected ≡ Some v) (IsReadingFault expected)

-- the same of what takes no memory, and so never wants any
abbrev pub ReadsExactly : {A : Type 0} → Option A → Result A Refusal → Type 0
ReadsExactly expected result = MatchResult result (λ v. expected ≡ Some v) (λ e. (e ≡ BadRequest) × (expected ≡ None))

-- the same, where the result is seen as a value of another type
abbrev pub ReadsBy : {A B : Type 0} → (B → A) → Option A → Result B Refusal → Type 0
ReadsBy see expected result = MatchResult result (λ v. expected ≡ Some (see v)) (IsReadingFault expected)
