-- Reading the lines of a printed text, one after another.
use Rattle.text_and_lists.proofs.Lists.{one_byte}
use Rattle.text_and_lists.proofs.Round.{AreLines, bare-joined, kept_end, lines_again}
use Rattle.text_and_lists.specs.Lines.{lines_of, without_return}
use Rattle.text_and_lists.specs.Reading.{◌>>=◌}
use Rattle.text_and_lists.specs.Words.{IsBare, ended, joined, text_of}
use Rattle.job_model.specs.Legal.{IsScriptWord}
use Rattle.job_script.proofs.Words.{is_letter, is_lettered, literal_word, plain_word}
use Rattle.job_script.specs.Kinds.{Line}
use Rattle.job_script.specs.Script.{enters, is_skipped, kind_of, line_at, lines_at, said_at, words_at}
use Rattle.job_script.specs.declared.draft.Draft.{Draft}
use Rattle.job_script.specs.declared.draft.Group.{Group}
use Rattle.job_script.specs.declared.kinds.Kind.{Kind}
use Rattle.std.proofs.Common.{List, Ok, Some, ap, append_assoc, arith, false, length, map, subst, sym, true, ℕ, [], ◌++◌, ◌+◌, ◌∙◌, ◌∷◌}
use Rattle.std.proofs.Common.{◌≡◌}
use Rattle.std.proofs.lemmas.Bool.{and_parts}
use Rattle.std.proofs.lemmas.List.{append-nil, length-append, map-append}
use Rattle.std.proofs.lemmas.Str.{IsUtf8-append, IsUtf8-from_is_utf8, IsUtf8-nil, is_utf8-from_IsUtf8}
use Rattle.std.specs.List.{AllByRecursion, list_all}
use Rattle.std.specs.Prelude.{nat_lt}
use Rattle.std.specs.Str.{IsUtf8, is_utf8}

-- ---- a printed line

-- Holds if the word, as the last one of a line, keeps its end: it loses no CR.
abbrev pub IsLast : List ℕ → Type 0
IsLast w = (front : List ℕ) → without_return (front ++ w) ≡ front ++ w

-- Holds if the last word of a line keeps its end.
abbrev pub IsKept : Line → Type 0
IsKept [] = ⊥
IsKept (w ∷ []) = IsLast w
IsKept (w ∷ v ∷ ws) = IsKept (v ∷ ws)

-- Holds if the line's words are allowed, it is not skipped, and it keeps its end.
pub record IsPrinted (ws : Line) : Type 0 where
  pub words : AllByRecursion IsScriptWord ws
  pub kept : IsKept ws
  pub shown : is_skipped (joined ws) ≡ false

kept_joined : (front : List ℕ) (ws : Line) → IsKept ws → without_return (front ++ joined ws) ≡ front ++ joined ws
kept_joined front [] k = absurd k
kept_joined front (w ∷ []) k = k front
kept_joined front (w ∷ v ∷ ws) k =
    let e : front ++ (w ++ 32 ∷ joined (v ∷ ws)) ≡ (front ++ (w ++ 32 ∷ [])) ++ joined (v ∷ ws) = simp append_assoc in
    ap without_return e ∙ kept_joined (front ++ (w ++ 32 ∷ [])) (v ∷ ws) k ∙ sym e

-- A word of at least one letter keeps its end.
pub plain_last : (w : List ℕ) → is_lettered w ≡ true → IsLast w
plain_last [] h = absurd cc
plain_last (x ∷ xs) h = λ front. kept_end front x xs (plain_word (x ∷ xs) (and_parts (nat_lt 0 (length (x ∷ xs))) _ h).1)

-- A script may have a word of letters.
pub lettered_word : (w : List ℕ) → is_lettered w ≡ true → IsScriptWord w
lettered_word w h = literal_word w (and_parts (nat_lt 0 (length w)) (list_all is_letter w) h).1

letters_kept : (w : List ℕ) (ws : Line) → list_all is_lettered (w ∷ ws) ≡ true → IsKept (w ∷ ws)
letters_kept w [] h = plain_last w (and_parts (is_lettered w) true h).0
letters_kept w (v ∷ ws) h = letters_kept v ws (and_parts (is_lettered w) _ h).1

letters_words : (ws : Line) → list_all is_lettered ws ≡ true → AllByRecursion IsScriptWord ws
letters_words [] h = tt
letters_words (w ∷ ws) h = let p = and_parts (is_lettered w) _ h in (lettered_word w p.0, letters_words ws p.1)

-- A line of words of letters can be printed.
pub printed : (w : List ℕ) (ws : Line) → list_all is_lettered (w ∷ ws) ≡ true → is_skipped (joined (w ∷ ws)) ≡ false → IsPrinted (w ∷ ws)
printed w ws h shown = record { words = letters_words (w ∷ ws) h; kept = letters_kept w ws h; shown = shown }

-- ---- the text of printed lines

bares : (ws : Line) → AllByRecursion IsScriptWord ws → AllByRecursion IsBare ws
bares [] h = tt
bares (w ∷ ws) h = (h.0.1, bares ws h.1)

are_lines : (ls : List Line) → AllByRecursion IsPrinted ls → AreLines ls
are_lines [] h = tt
are_lines ([] ∷ ls) h = absurd h.0.kept
are_lines ((w ∷ ws) ∷ ls) h = (record { bare = bares (w ∷ ws) h.0.words; kept = kept_joined [] (w ∷ ws) h.0.kept }, are_lines ls h.1)

-- Reading the text of printed lines gives the lines.
pub lines_printed : (ls : List Line) → AllByRecursion IsPrinted ls → lines_of (text_of ls) ≡ map joined ls
lines_printed ls h = lines_again ls (are_lines ls h)

joined_utf8 : (ws : Line) → AllByRecursion IsScriptWord ws → IsUtf8 (joined ws)
joined_utf8 [] h = IsUtf8-nil
joined_utf8 (w ∷ []) h = IsUtf8-from_is_utf8 w h.0.0
joined_utf8 (w ∷ v ∷ ws) h = IsUtf8-append w (32 ∷ joined (v ∷ ws)) (IsUtf8-from_is_utf8 w h.0.0)
    (IsUtf8-append (32 ∷ []) (joined (v ∷ ws)) (one_byte 32 (omega arith)) (joined_utf8 (v ∷ ws) h.1))

text_utf8 : (ls : List Line) → AllByRecursion IsPrinted ls → IsUtf8 (text_of ls)
text_utf8 [] h = IsUtf8-nil
text_utf8 (l ∷ ls) h = IsUtf8-append (ended l) (text_of ls) (IsUtf8-append (joined l) (10 ∷ []) (joined_utf8 l h.0.words)
    (one_byte 10 (omega arith))) (text_utf8 ls h.1)

pub printed_utf8 : (ls : List Line) → AllByRecursion IsPrinted ls → is_utf8 (text_of ls) ≡ true
printed_utf8 ls h = is_utf8-from_IsUtf8 (text_of ls) (text_utf8 ls h)

-- ---- from one draft to the next

-- Holds if these lines can be printed, and reading them from line n on changes the draft d to the draft e.
pub record Goes (n : ℕ) (d : Draft) (ls : List Line) (e : Draft) : Type 0 where
  pub printed : AllByRecursion IsPrinted ls
  pub reads : (rest : List (List ℕ)) → lines_at n d (map joined ls ++ rest) ≡ lines_at (n + length ls) e rest

pub goes_nowhere : (n : ℕ) (d : Draft) → Goes n d [] d
goes_nowhere n d = let e : n ≡ n + 0 = omega arith in record { printed = tt; reads = λ rest. ap (λ (m : ℕ). lines_at m d rest) e }

line_printed : (n : ℕ) (d : Draft) (l : Line) → IsPrinted l → line_at n d (joined l) ≡ words_at n d l
line_printed n d [] h = absurd h.kept
line_printed n d (w ∷ ws) h = rw h.shown (ap (words_at n d) (bare-joined w ws (bares (w ∷ ws) h.words)))

next_line : (n : ℕ) (d e : Draft) (text : List ℕ) (texts : List (List ℕ)) → line_at n d text ≡ Ok e
    → lines_at n d (text ∷ texts) ≡ lines_at (n + 1) e texts
unfolding lines_at
next_line n d e text texts h = ap (λ r. r >>= λ (next : Draft). lines_at (n + 1) next texts) h

-- One line.
pub goes_on : (n : ℕ) (d e : Draft) (l : Line) → IsPrinted l → words_at n d l ≡ Ok e → Goes n d (l ∷ []) e
goes_on n d e l is h = record { printed = (is, tt); reads = λ rest. next_line n d e (joined l) rest (line_printed n d l is ∙ h) }

printed_end : (ls ms : List Line) → AllByRecursion IsPrinted ls → AllByRecursion IsPrinted ms → AllByRecursion IsPrinted (ls ++ ms)
printed_end [] ms h k = k
printed_end (l ∷ ls) ms h k = (h.0, printed_end ls ms h.1 k)

-- Lines after lines.
pub goes_through : (n : ℕ) (d : Draft) (ls : List Line) (e : Draft) (ms : List Line) (f : Draft) → Goes n d ls e
    → Goes (n + length ls) e ms f → Goes n d (ls ++ ms) f
goes_through n d ls e ms f first second =
    let all : n + length ls + length ms ≡ n + length (ls ++ ms) = omega (arith, length-append ls ms) in
    let split = λ (rest : List (List ℕ)). ap (λ (l : List (List ℕ)). l ++ rest) (map-append joined ls ms) ∙ append_assoc (map joined ls)
    (map joined ms) rest in
    record {
      printed = printed_end ls ms first.printed second.printed;
      reads = λ rest. ap (lines_at n d) (split rest) ∙ first.reads (map joined ms ++ rest) ∙ second.reads rest ∙ ap
          (λ (m : ℕ). lines_at m f rest) all;
    }

-- Lines up to the last one.
pub goes_all : (n : ℕ) (d : Draft) (ls : List Line) (e : Draft) → Goes n d ls e → lines_at n d (map joined ls) ≡ Ok e
unfolding lines_at
goes_all n d ls e h = ap (lines_at n d) (sym (append-nil (map joined ls))) ∙ h.reads []

-- A list of items, each printed in some lines. `state` is the draft after the items so far, and `Are` is a property of these items and of
-- those that follow.
module _ {A : Type 0} (lines : A → List Line) (print : List A → List Line) (none : print [] ≡ [])
    (more : (x : A) (xs : List A) → print (x ∷ xs) ≡ lines x ++ print xs)
    (state : List A → Draft) (whole : List A) (Are : List A → List A → Type 0) where
  -- One more item leads from the state before it to the state after it.
  abbrev pub GoesOne : Type 0
  GoesOne = (n : ℕ) (before : List A) (x : A) (after : List A) → before ++ x ∷ after ≡ whole → Are before (x ∷ after)
      → Goes n (state before) (lines x) (state (before ++ x ∷ [])) × Are (before ++ x ∷ []) after

  pub each_goes : GoesOne → (n : ℕ) (before after : List A) → before ++ after ≡ whole → Are before after
      → Goes n (state before) (print after) (state whole)
  each_goes one n before [] e are = subst (λ (ls : List Line). Goes n (state before) ls (state whole)) (sym none)
      (subst (λ (l : List A). Goes n (state before) [] (state l)) (sym (append-nil before) ∙ e) (goes_nowhere n (state before)))
  each_goes one n before (x ∷ xs) e are =
      let g = one n before x xs e are in
      subst (λ (ls : List Line). Goes n (state before) ls (state whole)) (sym (more x xs))
      (goes_through n (state before) (lines x) (state (before ++ x ∷ [])) (print xs) (state whole) g.0
      (each_goes one (n + length (lines x)) (before ++ x ∷ []) xs (append_assoc before (x ∷ []) xs ∙ e) g.1))

-- ---- how a line is read

-- A line is read by its kind, if that kind is allowed in the group.
pub said : (n : ℕ) (word : List ℕ) (k : Kind) (g : Group) (values : List (List ℕ)) (d e : Draft) → kind_of word ≡ Some k
    → enters k d.group ≡ Some g → said_at n k (record d { group = g }) values ≡ Ok e → words_at n d (word ∷ values) ≡ Ok e
unfolding words_at
said n word k g values d e a b h = rw (a, b) h
