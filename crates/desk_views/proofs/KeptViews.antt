-- Offers that are told, by what is kept of them.
use Rattle.desk_views.proofs.Common.{◌≡◌, ℕ, Bool, true, false, nat_eq, List, [], ◌∷◌, Option, Some, Result, IfOk, refl}
use Rattle.desk_views.proofs.Common.{subst, arith, list_any, nat_tests, and_parts, is_offer_of, Bytes, Offer}
use Rattle.desk_records.specs.Tables.{Tables}
use Rattle.desk_store.specs.KeptOffers.{IsKept, IsKeptAs}
use Rattle.desk_views.specs.Kept.{AreKept}

-- this action, so offered
kept_as : (k : ℕ) (canceling : Bool) (o : Offer) → o.action ≡ k → o.canceling ≡ canceling → Some o ≡ Some (record { action = k; canceling = canceling })
kept_as k canceling o action so = λ i. Some (record { action = action i; canceling = so i })

-- where it is this action that is offered, a row keeps it so
pub kept_offer : (t : Tables) (id : Bytes) (k : ℕ) (canceling : Bool) (found : Option Offer) (same : Bool) → same ≡ is_offer_of k canceling found → same ≡ true
    → IsKept t id found
    → IsKept t id (Some (record { action = k; canceling = canceling }))
kept_offer t id k canceling found same asked is kept = grind (arith, and_parts, nat_tests)

-- the modules of what a row keeps: none of a cancel
pub kept_modules : (t : Tables) (id : Bytes) (o : Offer) (modules : List ℕ) → (o.canceling ≡ true → modules ≡ []) → IsKept t id (Some o) → AreKept t id modules
kept_modules t id o [] none kept = tt
kept_modules t id o (m ∷ more) none kept =
    let other : o.canceling ≡ false = grind (arith, none) in (o.action, subst (IsKept t id) (kept_as o.action false o refl other) kept)

-- a module among them
pub kept_among : (t : Tables) (id : Bytes) (m : ℕ) (modules : List ℕ) (among : Bool) → among ≡ list_any (λ n. nat_eq n m) modules → among ≡ true
    → AreKept t id modules
    → (action : ℕ) × IsKeptAs t id action
kept_among t id m modules among asked is kept = grind arith

-- .. whatever the call for them comes to
pub kept_installed : {V E : Type 0} (items : V → List ℕ) (id : Bytes) (o : Offer) (Was : Tables → Type 0) (Clean : Type 0) (r : Result V E)
    → IfOk r (λ v. o.canceling ≡ true → items v ≡ []) → ((t : Tables) → Was t → Clean → IsKept t id (Some o))
    → IfOk r (λ v. (t : Tables) → Was t → Clean → AreKept t id (items v))
kept_installed items id o h3 h4 r empty kept = grind (arith, kept_modules)

pub where_ok : {A E : Type 0} (P : Type 0) (r : Result A E) → P → IfOk r (λ _. P)
where_ok h0 r p = grind arith
