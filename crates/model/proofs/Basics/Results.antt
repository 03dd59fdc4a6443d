-- Results and refusals: what a result was made of, and what holds of a result or of the number of a refusal.
use mathlib.Core.Path.{◌≡◌, refl, subst}
use mathlib.Core.Bool.{Bool, true, false, true≢false}
use Prim.Native.Nat.{ℕ}
use Rattle.model.specs.Refusals.{Out, ok, refused, ◌>>=◌, check, mapped, instead}

-- ---- a result

pub ok_eq : {A : Type 0} (a b : A) → ok a ≡ ok b → a ≡ b
ok_eq a b e = cc

pub refused-ok : {A : Type 0} (n : ℕ) (a : A) → refused n ≡ ok a → ⊥
refused-ok n a e = let z : true ≡ false = cc in true≢false z

pub check-ok : {A : Type 0} (b : Bool) (n : ℕ) (o : Out A) (a : A) → check b n o ≡ ok a → (b ≡ true) × (o ≡ ok a)
check-ok true n o a e = (refl, e)
check-ok false n o a e = absurd (refused-ok n a e)

-- a sequence has a result only by way of a first result
pub bind_ok : {A B : Type 0} (o : Out A) (f : A → Out B) (b : B) → (o >>= f) ≡ ok b → (a : A) × (o ≡ ok a) × (f a ≡ ok b)
bind_ok (ok a) f b e = (a, refl, e)
bind_ok (refused n) f b e = absurd (refused-ok n b e)

pub instead-ok : {A : Type 0} (n : ℕ) (o : Out A) (a : A) → instead n o ≡ ok a → o ≡ ok a
instead-ok n (ok b) a e = e
instead-ok n (refused m) a e = absurd (refused-ok n a e)

-- ---- a result mapped

pub mapped-refused : {A B : Type 0} (f : A → B) (o : Out A) (k : ℕ) → refused k ≡ mapped f o → o ≡ refused k
mapped-refused f (ok a) k e = let z : true ≡ false = cc in absurd (true≢false z)
mapped-refused f (refused n) k e = cc

pub check-mapped : {A B : Type 0} (f : A → B) (b : Bool) (n : ℕ) (o : Out A) → mapped f (check b n o) ≡ check b n (mapped f o)
check-mapped f true n o = refl
check-mapped f false n o = refl

-- ---- sequences

pub bind_self : {A : Type 0} (o : Out A) → (o >>= λ a. ok a) ≡ o
bind_self (ok a) = refl
bind_self (refused n) = refl

pub bind_assoc : {A B C : Type 0} (o : Out A) (f : A → Out B) (g : B → Out C) → (o >>= f >>= g) ≡ (o >>= λ a. f a >>= g)
bind_assoc (ok a) f g = refl
bind_assoc (refused n) f g = refl

-- what a sequence gives, mapped: where each result of its first part goes on so
pub bind_mapped : {A B C : Type 0} (h : B → C) (o : Out A) (f : A → Out B) (g : A → Out C)
    → ((a : A) → o ≡ ok a → g a ≡ mapped h (f a)) → (o >>= g) ≡ mapped h (o >>= f)
bind_mapped h (ok a) f g k = k a refl
bind_mapped h (refused n) f g k = refl

-- ---- properties

-- K of the result, or P of the number of the refusal
abbrev pub Ends : {A : Type 0} → (A → Type 0) → (ℕ → Type 0) → Out A → Type 0
Ends K P (ok a) = K a
Ends K P (refused n) = P n

-- the result, if it is one, has the property
abbrev pub Gives : {A : Type 0} → (A → Type 0) → Out A → Type 0
Gives K o = Ends K (λ n. Unit {0}) o

-- the number of the refusal, if it is one, has the property
abbrev pub Refuses : {A : Type 0} → (ℕ → Type 0) → Out A → Type 0
Refuses P o = Ends (λ a. Unit {0}) P o

module _ {A B : Type 0} (K : A → Type 0) (L : B → Type 0) where
  pub ends_bind : (P : ℕ → Type 0) (o : Out A) (f : A → Out B) → Ends K P o → ((a : A) → K a → Ends L P (f a)) → Ends L P (o >>= f)
  ends_bind P (ok a) f h k = k a h
  ends_bind P (refused n) f h k = h

  pub gives_bind : (o : Out A) (f : A → Out B) → Gives K o → ((a : A) → K a → Gives L (f a)) → Gives L (o >>= f)
  gives_bind o f h k = ends_bind (λ n. Unit {0}) o f h k

pub gives_any : {A : Type 0} (o : Out A) → Gives (λ a. Unit {0}) o
gives_any (ok a) = tt
gives_any (refused n) = tt

pub gives_check : {A : Type 0} (K : A → Type 0) (b : Bool) (n : ℕ) (o : Out A) → Gives K o → Gives K (check b n o)
gives_check K true n o h = h
gives_check K false n o h = tt

pub gives_ok : {A : Type 0} (K : A → Type 0) (o : Out A) (a : A) → o ≡ ok a → Gives K o → K a
gives_ok K o a p h = subst (Gives K) p h

module _ {A : Type 0} (P : ℕ → Type 0) where
  pub refuses_check : (b : Bool) (n : ℕ) (o : Out A) → P n → Refuses P o → Refuses P (check b n o)
  refuses_check true n o p h = h
  refuses_check false n o p h = p

  pub refuses_bind : {B : Type 0} (o : Out B) (f : B → Out A) → Refuses P o → ((b : B) → Refuses P (f b)) → Refuses P (o >>= f)
  refuses_bind o f h k = ends_bind (λ b. Unit {0}) (λ a. Unit {0}) P o f h (λ b u. k b)

  pub refuses_instead : (n : ℕ) (o : Out A) → P n → Refuses P (instead n o)
  refuses_instead n (ok a) p = tt
  refuses_instead n (refused m) p = p

  pub refuses_imp : (Q : ℕ → Type 0) → ((n : ℕ) → P n → Q n) → (o : Out A) → Refuses P o → Refuses Q o
  refuses_imp Q f (ok a) h = tt
  refuses_imp Q f (refused n) h = f n h

  pub refuses_by : (o : Out A) (n : ℕ) → o ≡ refused n → Refuses P o → P n
  refuses_by o n p h = subst (Refuses P) p h

-- a part of a result that a test guards
pub mapped-check : {A B : Type 0} (f : A → B) (b : Bool) (n : ℕ) (a : A) → mapped f (check b n (ok a)) ≡ check b n (ok (f a))
mapped-check f true n a = refl
mapped-check f false n a = refl

pub mapped-ok : {A B : Type 0} (f : A → B) (o : Out A) (b : B) → mapped f o ≡ ok b → (a : A) × (o ≡ ok a) × (f a ≡ b)
mapped-ok f (ok a) b e = (a, refl, ok_eq (f a) b e)
mapped-ok f (refused n) b e = absurd (refused-ok n b e)
