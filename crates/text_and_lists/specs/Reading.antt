-- Reading that ends at the first fault, and what a call returned, compared with what reading gives. Faults are of any type F. `wanting` is
-- true of the faults which say that memory ran out; these may come at any place.
use Rattle.std.specs.Prelude.{Bool, Err, List, None, Ok, Option, Result, Some, false, if◌then◌else◌, true, ℕ, ⊤, ◌≡◌}

-- Passes the value of the first step to the second, or ends with the fault.
infixl 10 ◌>>=◌
-- Passes the value of the first step to the second, or ends with the fault.
abbrev pub ◌>>=◌ : {F A B : Type 0} → Result A F → (A → Result B F) → Result B F
(Ok x) >>= f = f x
(Err fault) >>= f = Err fault

-- The value, or the fault if there is none.
abbrev pub need : {F A : Type 0} → Option A → F → Result A F
need None fault = Err fault
need (Some x) fault = Ok x

-- The fault, unless the test is true.
abbrev pub check : {F : Type 0} → Bool → F → Result ⊤ F
check true fault = Ok tt
check false fault = Err fault

-- The fault if there is a value already.
abbrev pub free : {F A : Type 0} → Option A → F → Result ⊤ F
free None fault = Ok tt
free (Some x) fault = Err fault

-- A value with the bytes that are left after it, or a fault.
abbrev pub Read : Type 0 → Type 0 → Type 0
Read F A = Result (A × List ℕ) F

-- The value that f makes of the one that is read.
abbrev pub made : {F A B : Type 0} → (A → B) → Read F A → Read F B
made f read = read >>= λ x. Ok (f x.0, x.1)

-- The value if it passes the test, else this fault.
abbrev pub passing : {F A : Type 0} → (A → Bool) → F → A × List ℕ → Read F A
passing test fault x = if test x.0 then Ok x else Err fault

-- P holds, unless the test is true.
abbrev pub Unless : Bool → Type 0 → Type 0
Unless true P = Unit {0}
Unless false P = P

-- Reading ends with this fault, unless the fault is that memory ran out.
abbrev pub Fails : {F A : Type 0} → (F → Bool) → F → Result A F → Type 0
Fails wanting fault read = Unless (wanting fault) (read ≡ Err fault)

-- The call's result, seen by `view`, is what reading gives, unless memory ran out.
abbrev pub GivesBy : {F A B : Type 0} → (F → Bool) → (A → B) → Result A F → Result B F → Type 0
GivesBy wanting view (Ok x) read = read ≡ Ok (view x)
GivesBy wanting view (Err fault) read = Fails wanting fault read

-- The call's result is what reading gives, unless memory ran out.
abbrev pub Gives : {F A : Type 0} → (F → Bool) → Result A F → Result A F → Type 0
Gives wanting result read = GivesBy wanting (λ x. x) result read
