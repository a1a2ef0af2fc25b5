-- A run consists of tries, and a request exhausted its retries exactly if one of the tries did.
use Rattle.machine.specs.Tries.{AreTries, AreUnanswered, HasUnanswered, IsBrokenOff, IsClosed, IsTry, Tried, Try, answer_in, is_worn}
use Rattle.machine.specs.Tries.{sendings_of, some_worn, spare_after}
use Rattle.machine.specs.declared.driving.DriveStop.TheVariants.{NoMemory, StoreFault}
use Rattle.retries.specs.Operation.{Follows, run}
use Rattle.retries.specs.Retries.{Item, Retried, has_worn, is_zero, step, unanswered_by, wants_of, wears}
use Rattle.s3_types.specs.Moment.{is_unanswered}
use Rattle.s3_types.specs.declared.journal.Entry.{Entry}
use Rattle.s3_types.specs.declared.journal.Outcome.{Outcome}
use Rattle.s3_types.specs.declared.journal.Outcome.TheVariants.{Answered, Slow}
use Rattle.s3_types.specs.declared.request.Request.{Request}
use Rattle.std.proofs.Common.{Bool, Err, List, None, Ok, Option, Some, ap, append-nil, append_assoc, arith, false, length, refl, subst, suc}
use Rattle.std.proofs.Common.{sym, true, zero, ℕ, [], ◌++◌, ◌+◌, ◌<◌, ◌||◌, ◌∙◌, ◌∷◌, ◌≡◌, ◌≤◌}
use Rattle.std.proofs.lemmas.Bool.{false≢true, or_right}

-- The present request is that of the first try.
abbrev Leads : Option Request → List Try → List Entry → Type 0
Leads o (t ∷ ts) rest = o ≡ Some t.request
Leads o [] (e ∷ es) = o ≡ Some e.request
Leads o [] [] = Unit {0}

-- The request that is present after the entries, if that is known.
abbrev Ends : List Entry → List Try → Option Request → Option Request → Type 0
Ends (e ∷ es) ts now later = later ≡ Some e.request
Ends [] [] now later = later ≡ now
Ends [] (t ∷ ts) now later = Unit {0}

-- The entries as tries, between the request that is present before them and the one that is present after them.
pub record Grouped (retries spare : ℕ) (part : List Entry) (worn : Bool) (now later : Option Request) : Type 0 where
  pub tries : List Try
  pub rest : List Entry
  pub entries : part ≡ sendings_of tries ++ rest
  pub each : AreTries retries spare tries
  pub broken_off : IsBrokenOff (spare_after retries spare tries) rest
  pub wore : worn ≡ some_worn tries
  pub first : Leads now tries rest
  pub last : Ends rest tries now later

nothing : (retries spare : ℕ) (o : Option Request) → Grouped retries spare [] false o o
nothing retries spare o = record { tries = []; rest = []; entries = refl; each = tt; broken_off = tt; wore = refl; first = tt; last = refl }

same_spare : (n : ℕ) (ts : List Try) → spare_after n n ts ≡ n
same_spare n ts = grind arith

ends_behind : (rest : List Entry) (ts : List Try) (x : Try) (now o later : Option Request) → Ends rest ts o later
    → Ends rest (x ∷ ts) now later
ends_behind rest ts x now o later h = grind arith

ends_alike : (rest : List Entry) (ts : List Try) (x y : Try) (now later : Option Request) → Ends rest (x ∷ ts) now later
    → Ends rest (y ∷ ts) now later
ends_alike rest ts x y now later h = grind arith

-- A try of one send.
another : (retries spare : ℕ) (e : Entry) (es : List Entry) (here worn : Bool) (now o later : Option Request) (x : Try)
    → x.unanswered ++ answer_in x.answered ≡ e ∷ [] → IsTry spare x → now ≡ Some x.request → is_worn x.answered ≡ here
    → Grouped retries retries es worn o later → Grouped retries spare (e ∷ es) (here || worn) now later
another retries spare e es here worn now o later x is k asked h g = record {
  tries = x ∷ g.tries;
  rest = g.rest;
  entries = ap (λ l. e ∷ l) g.entries ∙ sym (ap (λ l. (l ++ sendings_of g.tries) ++ g.rest) is);
  each = (k, g.each);
  broken_off = subst (λ n. IsBrokenOff n g.rest) (same_spare retries g.tries) g.broken_off;
  wore = ap (λ b. b || worn) (sym h) ∙ ap (λ b. is_worn x.answered || b) g.wore;
  first = asked;
  last = ends_behind g.rest g.tries x now o later g.last;
}

-- One more send may be lost.
closed_more : (spare : ℕ) (r : Request) (n : ℕ) (a : Option Entry) → IsClosed spare r n a → IsClosed (suc spare) r (suc n) a
closed_more spare r n a h = grind arith

one_more : (n spare : ℕ) → n ≤ spare → suc n ≤ suc spare
one_more n spare h = omega arith

same_request : (o : Option Request) (a b : Request) → o ≡ Some a → o ≡ Some b → a ≡ b
same_request o a b h k = cc

-- A send without an answer, before a try that may lose one send less.
again_by : (retries spare : ℕ) (e : Entry) (es : List Entry) (worn : Bool) (now later : Option Request) → is_unanswered e.outcome ≡ true
    → now ≡ Some e.request
    → (ts : List Try) (rest : List Entry) → es ≡ sendings_of ts ++ rest → AreTries retries spare ts
    → IsBrokenOff (spare_after retries spare ts) rest
    → worn ≡ some_worn ts → Leads now ts rest → Ends rest ts now later → Grouped retries (suc spare) (e ∷ es) worn now later
again_by retries spare e es worn now later u asked [] [] is k broken wore first last =
    let few : 1 ≤ suc spare = omega arith in
    record {
      tries = [];
      rest = e ∷ [];
      entries = ap (λ l. e ∷ l) is;
      each = tt;
      broken_off = ((refl, u, tt), few);
      wore = wore;
      first =
          asked;
      last = last ∙ asked;
    }
again_by retries spare e es worn now later u asked [] (y ∷ ys) is k broken wore first last =
    let same : y.request ≡ e.request = same_request now y.request e.request first asked in
    record {
      tries = [];
      rest = e ∷ y ∷ ys;
      entries = ap (λ l. e ∷ l) is;
      each = tt;
      broken_off = ((refl, u, subst (λ r. AreUnanswered r (y ∷ ys)) same broken.0), one_more (length (y ∷ ys)) spare broken.1);
      wore = wore;
      first = asked;
      last = last ∙ ap Some same;
    }
again_by retries spare e es worn now later u asked (x ∷ ts) rest is k broken wore first last =
    let same : e.request ≡ x.request = same_request now e.request x.request asked first in
    let y : Try = record { request = x.request; unanswered = e ∷ x.unanswered; answered = x.answered } in
    record {
      tries = y ∷ ts;
      rest = rest;
      entries = ap (λ l. e ∷ l) is;
      each = (record { lost = (same, u, k.0.lost); closed = closed_more spare x.request (length x.unanswered) x.answered k.0.closed }, k.1);
      broken_off = broken;
      wore = wore;
      first = first;
      last = ends_alike rest ts x y now later last;
    }

again : (retries spare : ℕ) (e : Entry) (es : List Entry) (worn : Bool) (now later : Option Request) → is_unanswered e.outcome ≡ true
    → now ≡ Some e.request
    → Grouped retries spare es worn now later → Grouped retries (suc spare) (e ∷ es) worn now later
again retries spare e es worn now later u asked g = again_by retries spare e es worn now later u asked g.tries g.rest g.entries g.each
    g.broken_off g.wore g.first g.last

-- If no request is present at the end, no try was broken off.
none_left : (rest : List Entry) (ts : List Try) (now later : Option Request) → Ends rest ts now later → later ≡ None → rest ≡ []
none_left rest ts now later h g = grind arith

-- A try that exhausted its retries has `retries + 1` lost sends in a row.
window_by : (retries spare : ℕ) (ts : List Try) (rest : List Entry) (r : Request) (lost : List Entry) (a : Option Entry) → spare ≡ retries
    → AreUnanswered r lost → IsClosed spare r (length lost) a
    → (is_worn a || some_worn ts) ≡ true → (some_worn ts ≡ true → HasUnanswered (retries + 1) (sendings_of ts ++ rest))
    → HasUnanswered (retries + 1) (((lost ++ answer_in a) ++ sendings_of ts) ++ rest)
window_by retries spare ts rest r lost None e u k h ih = record {
  request = r;
  before = [];
  these = lost;
  behind = sendings_of ts ++ rest;
  is = ap (λ l. (l ++ sendings_of ts) ++ rest) (append-nil lost) ∙ append_assoc lost (sendings_of ts) rest;
  count = k ∙ ap (λ n. n + 1) e;
  lost = u;
}
window_by retries spare ts rest r lost (Some y) e u k h ih =
    let w = ih h in
    record {
      request = w.request;
      before = (lost ++ y ∷ []) ++ w.before;
      these = w.these;
      behind = w.behind;
      is = append_assoc (lost ++ y ∷ []) (sendings_of ts) rest ∙ ap (λ l. (lost ++ y ∷ []) ++ l) w.is ∙ sym
          (append_assoc (lost ++ y ∷ []) w.before (w.these ++ w.behind));
      count = w.count;
      lost = w.lost;
    }

window : (retries spare : ℕ) (ts : List Try) (rest : List Entry) → AreTries retries spare ts → spare ≡ retries → some_worn ts ≡ true
    → HasUnanswered (retries + 1) (sendings_of ts ++ rest)
window retries spare [] rest k e h = absurd (false≢true h)
window retries spare (x ∷ ts) rest k e h = window_by retries spare ts rest x.request x.unanswered x.answered e k.0.lost k.0.closed h
    (λ i. window retries retries ts rest k.1 refl i)

-- ---- of a machine

module _ {M : Type 0} (retries : ℕ) (wants : M → Option Request) (after : M → Item → M) where
  -- The entries of a run from t on, as tries.
  abbrev pub GroupedFrom : Retried M → List Entry → Type 0
  GroupedFrom t part = Grouped retries t.spare part (has_worn retries after t part) (wants t.operation)
      (wants (run (step retries after) t part).operation)

  by_spare : (m : M) (spare : ℕ) (e : Entry) (es : List Entry) (b : Bool) → is_unanswered e.outcome ≡ true → wants m ≡ Some e.request
      → GroupedFrom (unanswered_by retries after m b spare) es
      → Grouped retries spare (e ∷ es) (is_zero spare || has_worn retries after (unanswered_by retries after m b spare) es) (wants m)
      (wants (run (step retries after) (unanswered_by retries after m b spare) es).operation)
  by_spare m zero e es b u asked g =
      let x : Try = record { request = e.request; unanswered = e ∷ []; answered = None } in
      let one : length (e ∷ []) ≡ 0 + 1 = omega arith in
      another retries 0 e es true _ _ _ _ x refl (record { lost = (refl, u, tt); closed = one }) asked refl g
  by_spare m (suc n) e es b u asked g = again retries n e es _ _ _ u asked g

  by_outcome : (t : Retried M) (e : Entry) (es : List Entry) (o : Outcome) → e.outcome ≡ o → wants t.operation ≡ Some e.request
      → GroupedFrom (step retries after t o) es
      → Grouped retries t.spare (e ∷ es) (wears t o || has_worn retries after (step retries after t o) es) (wants t.operation)
      (wants (run (step retries after) (step retries after t o) es).operation)
  by_outcome t e es (Answered r) is asked g =
      let x : Try = record { request = e.request; unanswered = []; answered = Some e } in
      let few : 0 ≤ t.spare = omega arith in
      another retries t.spare e es false _ _ _ _ x refl (record { lost = tt; closed = (refl, ap is_unanswered is, few) }) asked refl g
  by_outcome t e es Slow is asked g = by_spare t.operation t.spare e es t.repeated (ap is_unanswered is) asked g
  by_outcome t e es _ is asked g = by_spare t.operation t.spare e es true (ap is_unanswered is) asked g

  grouped : (t : Retried M) (part : List Entry) → Follows (wants_of wants) (step retries after) t part → GroupedFrom t part
  grouped t [] f = nothing retries t.spare (wants t.operation)
  grouped t (e ∷ es) f = by_outcome t e es e.outcome refl f.0 (grouped (step retries after t e.outcome) es f.1)

  -- ---- a request exhausts its retries when more sends in a row are lost than it has to spare

  worn_outcome : (t : Retried M) (es behind : List Entry) (o : Outcome) → is_unanswered o ≡ true → t.spare < suc (length es)
      → ((t' : Retried M) → t'.spare < length es → has_worn retries after t' (es ++ behind) ≡ true)
      → (wears t o || has_worn retries after (step retries after t o) (es ++ behind)) ≡ true
  worn_outcome t es behind o h g e = grind arith

  worn_here : (t : Retried M) (r : Request) (these behind : List Entry) → AreUnanswered r these → t.spare < length these
      → has_worn retries after t (these ++ behind) ≡ true
  worn_here t r [] behind u l = let no : ⊥ = omega arith in absurd no
  worn_here t r (e ∷ es) behind u l = worn_outcome t es behind e.outcome u.1 l (λ t' l'. worn_here t' r es behind u.2 l')

  -- No request has more sends to spare than there are retries.
  kept_by : (m : M) (spare : ℕ) (b : Bool) → spare ≤ retries → (unanswered_by retries after m b spare).spare ≤ retries
  kept_by m zero b h = omega arith
  kept_by m (suc n) b h = omega arith

  kept : (t : Retried M) (o : Outcome) → t.spare ≤ retries → (step retries after t o).spare ≤ retries
  kept t (Answered r) h = omega arith
  kept t Slow h = kept_by t.operation t.spare t.repeated h
  kept t _ h = kept_by t.operation t.spare true h

  worn_behind : (t : Retried M) (r : Request) (before these behind : List Entry) → t.spare ≤ retries → AreUnanswered r these
      → length these ≡ retries + 1 → has_worn retries after t (before ++ (these ++ behind)) ≡ true
  worn_behind t r [] these behind l u n = let m : t.spare < length these = omega arith in worn_here t r these behind u m
  worn_behind t r (e ∷ es) these behind l u n = or_right (wears t e.outcome) _
      (worn_behind (step retries after t e.outcome) r es these behind (kept t e.outcome l) u n)

  -- ---- what the result of driving says of it

  pub tried_short : {T : Type 0} (t : Retried M) (part : List Entry) → Follows (wants_of wants) (step retries after) t part
      → Tried {T = T} retries t.spare part (Err NoMemory)
  tried_short t part f =
      let g = grouped t part f in
      record { tries = g.tries; rest = g.rest; entries = g.entries; each = g.each; broken_off = g.broken_off; told = tt; fault = λ _. tt }

  pub tried_worn : {T : Type 0} (t : Retried M) (part : List Entry) → Follows (wants_of wants) (step retries after) t part
      → wants (run (step retries after) t part).operation ≡ None → has_worn retries after t part ≡ true
      → Tried {T = T} retries t.spare part (Err StoreFault)
  tried_worn t part h g e = grind (arith, grouped, none_left, window)

  pub tried_whole : {T : Type 0} (x : T) (t : Retried M) (part : List Entry) → Follows (wants_of wants) (step retries after) t part
      → wants (run (step retries after) t part).operation ≡ None → has_worn retries after t part ≡ false → Tried retries t.spare part (Ok x)
  tried_whole x t part h g e = grind (arith, grouped, none_left, worn_behind)
