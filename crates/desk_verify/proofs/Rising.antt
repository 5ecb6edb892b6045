-- Lists whose numbers rise.
use Rattle.desk_verify.proofs.Common.{◌≡◌, inl, inr, ◌<◌, ℕ, true, List, [], ◌∷◌, map, arith, and_parts, nat_tests, Has, rise, refl}
use Rattle.std.specs.List.{AllZip}

-- each is greater than the one that they rise from
pub above : {X : Type 0} (f : X → ℕ) (last : ℕ) (xs : List X) → rise last (map f xs) ≡ true → (x : X) → Has xs x → last < f x
above f last [] h x among = absurd among
above f last (y ∷ xs) h x among = grind (arith, nat_tests, above f (f y) xs)

module _ {X : Type 0} (f : X → ℕ) where
  pub rest_rises : (last : ℕ) (x : X) (xs : List X) → rise last (map f (x ∷ xs)) ≡ true → rise (f x) (map f xs) ≡ true
  rest_rises last x xs h = (and_parts _ _ h).1

  -- no two are of one number
  pub only_one : (last : ℕ) (xs : List X) → rise last (map f xs) ≡ true → (x y : X) → Has xs x → Has xs y → f x ≡ f y → x ≡ y
  only_one last [] h x y at_x at_y same = absurd at_x
  only_one last (z ∷ xs) h x y at_x at_y same = grind (arith, nat_tests, only_one (f z) xs, above f (f z) xs)

  -- where another number rises along, it is greater where the first one is
  pub rise_both : (g : X → ℕ) (last before : ℕ) (xs : List X) → rise last (map f xs) ≡ true → rise before (map g xs) ≡ true → (x y : X) → Has xs x → Has xs y
      → f x < f y → g x < g y
  rise_both g last before [] h k x y at_x at_y less = absurd at_x
  rise_both g last before (z ∷ xs) h k x y at_x at_y less = grind (arith, nat_tests, rise_both g (f z) (g z) xs, above f (f z) xs, above g (g z) xs)

-- Two lists rise, the second one as another number of its items does. Where each item of either one has one of the other list, they go in step.
module _ {X Y : Type 0} (f : X → ℕ) (g h : Y → ℕ) (R : X → Y → Type 0) (keyed : (x : X) (y : Y) → R x y → f x ≡ g y) where
  pub in_step : (last before : ℕ) (xs : List X) (ys : List Y) → rise last (map f xs) ≡ true → rise before (map h ys) ≡ true
      → ((a b : Y) → Has ys a → Has ys b → h a < h b → g a < g b) → ((x : X) → Has xs x → (y : Y) × Has ys y × R x y)
      → ((y : Y) → Has ys y → (x : X) × Has xs x × R x y) → AllZip R xs ys
  in_step last before [] [] p q along there back = tt
  in_step last before [] (y ∷ ys) p q along there back = absurd (back y (inl refl)).1
  in_step last before (x ∷ xs) [] p q along there back = absurd (there x (inl refl)).1
  in_step last before (x ∷ xs) (y ∷ ys) p q along there back =
      let behind = above f (f x) xs (rest_rises f last x xs p) in
      let over = above h (h y) ys (rest_rises h before y ys q) in
      let after : (z : Y) → Has ys z → g y < g z = λ z among. along y z (inl refl) (inr among) (over z among) in
      let its = there x (inl refl) in
      let mine = back y (inl refl) in
      let head : R x y = grind (arith, keyed x its.0 its.2, keyed mine.0 y mine.2, after its.0, behind mine.0) in
      let first = keyed x y head in (
        head,
        in_step (f x) (h y) xs ys (rest_rises f last x xs p) (rest_rises h before y ys q) (λ a b at_a at_b. along a b (inr at_a) (inr at_b))
            (λ z among. let it = there z (inr among) in grind (arith, keyed z it.0, first, behind z among))
            (λ z among. let it = back z (inr among) in grind (arith, keyed it.0 z, first, after z among)),
      )
