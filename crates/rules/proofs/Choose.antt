-- What is so on both sides of a test is so of what it chooses.
use mathlib.Core.Bool.{Bool, true, false, cond}
use mathlib.Core.Path.{◌≡◌}

pub either_way : {A : Type 0} (F : A → Type 0) (b : Bool) {x y : A} → F x → F y → F (cond b x y)
either_way F true f g = f
either_way F false f g = g

pub side_by_side : {A B : Type 0} (f : A → B) (b : Bool) {x y : A} {u v : B} → f x ≡ u → f y ≡ v → f (cond b x y) ≡ cond b u v
side_by_side f true p q = p
side_by_side f false p q = q
