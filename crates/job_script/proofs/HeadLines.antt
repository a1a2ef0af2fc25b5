-- The lines of a script's head that give one value. Reading a printed line gives its value, and what is read keeps the bounds.
use Rattle.text_and_lists.proofs.Naturals.{positive}
use Rattle.text_and_lists.proofs.Reading.{checked, needed, parted, same_ok}
use Rattle.text_and_lists.proofs.Round.{number_in-decimal}
use Rattle.text_and_lists.specs.Reading.{check, need}
use Rattle.text_and_lists.specs.Shapes.{one}
use Rattle.job_model.specs.Attempts.{Declared}
use Rattle.job_model.specs.JobScript.{Script}
use Rattle.job_model.specs.Legal.{AreFates, IsDest, IsLegal, IsScriptWord, bytes_in, files_in}
use Rattle.job_model.specs.Paths.{is_dest_key}
use Rattle.job_model.specs.declared.events.Event.{Event}
use Rattle.job_script.proofs.DestPaths.{dest_legal, key_some, path_again, path_last, path_sound, path_word}
use Rattle.job_script.proofs.Lines.{Goes, IsPrinted, goes_nowhere, goes_on, goes_through, printed, said}
use Rattle.job_script.proofs.Words.{decimal_lettered, id_lettered, is_lettered, literal_word, number_bounds, word_clean}
use Rattle.job_script.specs.HeadLines.{Row, Value, as_path, dest_of, head_at, head_order, job_of, name, no_head, number, path_text, row}
use Rattle.job_script.specs.HeadLines.{row_at, row_lines, unless, value_lines}
use Rattle.job_script.specs.Kinds.{Names, answer_word, answers, committers, mode_word, modes, named}
use Rattle.job_script.specs.Script.{is_skipped, kind_of, nothing, said_at}
use Rattle.job_script.specs.declared.draft.Draft.{Draft}
use Rattle.job_script.specs.declared.draft.Group.{Group}
use Rattle.job_script.specs.declared.fault.ScriptFault.{ScriptFault}
use Rattle.job_script.specs.declared.fault.ScriptFault.TheVariants.{BadLine, BadNumber, BadPath, DestIsRoot}
use Rattle.job_script.specs.declared.head.Head.{Head}
use Rattle.job_script.specs.declared.head.HeadWord.{HeadWord}
use Rattle.path_keys.specs.Paths.{Path, path_in}
use Rattle.path_keys.specs.declared.fault.PathFault.{PathFault}
use Rattle.pending_json.specs.Committers.{committer_word}
use Rattle.s3_types.specs.Names.{is_job_id}
use Rattle.s3_types.specs.declared.request.Committer.{Committer}
use Rattle.s3_types.specs.declared.request.Mode.{Mode}
use Rattle.std.proofs.Common.{Bool, List, None, Ok, Option, Result, Some, ap, arith, decimal, false, length, lit<, refl, subst, sym, true}
use Rattle.std.proofs.Common.{ℕ, [], ◌++◌, ◌+◌, ◌<◌, ◌==◌, ◌^◌, ◌∙◌, ◌∷◌, ◌≡◌, ◌≤◌}
use Rattle.std.proofs.lemmas.Bool.{lt-ltb}
use Rattle.std.specs.List.{AllByRecursion, flat_map}
use Rattle.std.specs.Prelude.{IfSome, codes, nat_lt, option_map}
use Rattle.s3_types.specs.declared.request.Committer.TheVariants as committer
use Rattle.s3_types.specs.declared.request.Mode.TheVariants as mode
use Rattle.job_script.specs.declared.draft.Group.TheVariants as group
use Rattle.job_script.specs.declared.head.HeadWord.TheVariants as head
use Rattle.job_script.specs.declared.kinds.Kind.TheVariants as kind

-- ---- a kind of line

-- Holds if the number is from low to high.
abbrev Between : ℕ → ℕ → ℕ → Type 0
Between low high n = (low ≤ n) × (n ≤ high)

-- Holds if the value of a line of this kind keeps its bounds.
abbrev pub Holds : (w : HeadWord) → Value w → Type 0
Holds head.Job id = is_job_id id ≡ true
Holds head.Dest p = IsDest p
Holds head.Tasks n = Between 0 1000 n
Holds head.Retries n = Between 0 9 n
Holds head.Block n = Between 1 67108864 n
Holds head.Lanes n = Between 1 8 n
Holds head.Stamp n = Between 0 999999999999999999 n
Holds w x = Unit {0}

-- Holds if each value within its bounds can be printed, reading it gives the value, and a value that is read keeps the bounds.
record IsRow {A : Type 0} (word : List ℕ) (read : ℕ → List ℕ → Result A ScriptFault) (text : A → List ℕ) (Fits : A → Type 0) : Type 0 where
  pub printed : (x : A) → Fits x → IsPrinted (word ∷ text x ∷ [])
  pub again : (n : ℕ) (x : A) → Fits x → read n (text x) ≡ Ok x
  pub sound : (n : ℕ) (value : List ℕ) (x : A) → IsScriptWord value → read n value ≡ Ok x → Fits x

-- A line of a word of letters and a value that is a word of letters can be printed.
valued : (word value : List ℕ) → is_lettered word ≡ true → is_lettered value ≡ true → is_skipped (word ++ 32 ∷ value) ≡ false
    → IsPrinted (word ∷ value ∷ [])
valued word value w v shown = printed word (value ∷ []) (rw (w, v) refl) shown

number_row : (word : List ℕ) (low high : ℕ) → high < 10 ^ 18 → is_lettered word ≡ true
    → ((v : List ℕ) → is_skipped (word ++ 32 ∷ v) ≡ false) → IsRow word (number low high) decimal (Between low high)
unfolding number
number_row word low high most w shown = record {
  printed = λ x h. valued word (decimal x) w (decimal_lettered x (omega (arith, most, h.1))) (shown (decimal x));
  again = λ n x h. ap (λ o. need o (BadNumber n)) (number_in-decimal low high x h.0 h.1 most);
  sound = λ n value x is h. number_bounds low high value x (needed _ (BadNumber n) x h);
}

-- Holds if the text of x is a word of letters, and the table gives x for it.
abbrev pub IsName : {A : Type 0} → Names A → (A → List ℕ) → A → Type 0
IsName names text x = (named names (text x) ≡ Some x) × (is_lettered (text x) ≡ true)

name_row : {A : Type 0} (word : List ℕ) (names : Names A) (text : A → List ℕ) → ((x : A) → IsName names text x) → is_lettered word ≡ true
    → ((v : List ℕ) → is_skipped (word ++ 32 ∷ v) ≡ false) → IsRow word (name names) text (λ x. Unit {0})
name_row word names text is w shown = record {
  printed = λ x h. valued word (text x) w (is x).1 (shown (text x));
  again = λ n x h. ap (λ o. need o (BadLine n)) (is x).0;
  sound = λ n value x w h. tt;
}

committer_is : (c : Committer) → IsName committers committer_word c
committer_is committer.Magic = (refl, refl)
committer_is c = (refl, refl)

mode_is : (m : Mode) → IsName modes mode_word m
mode_is mode.Fail = (refl, refl)
mode_is m = (refl, refl)

answer_is : (b : Bool) → IsName answers answer_word b
answer_is true = (refl, refl)
answer_is false = (refl, refl)

job_sound : (n : ℕ) (word id : List ℕ) → job_of n word ≡ Ok id → is_job_id id ≡ true
unfolding job_of
job_sound n word id h = grind arith

dest_again : (n : ℕ) (p : Path) → IsDest p → dest_of n (path_text p) ≡ Ok p
unfolding dest_of
dest_again n p h = rw (path_again p h, h.below, lt-ltb 0 (length p.key) (key_some p h)) refl

as_path_ok : (n : ℕ) (r : Result Path PathFault) (p : Path) → as_path n r ≡ Ok p → r ≡ Ok p
as_path_ok n r p h = grind arith

dest_sound : (n : ℕ) (word : List ℕ) (p : Path) → IsScriptWord word → dest_of n word ≡ Ok p → IsDest p
unfolding dest_of
dest_sound n word p is h =
    let a = parted (as_path n (path_in word)) _ _ h in
    let b = parted (check (nat_lt 0 (length a.value.key)) DestIsRoot) _ _ a.next in
    let c = parted (check (is_dest_key a.value.key) (BadPath n)) _ _ b.next in
    let path = path_sound word a.value (word_clean word is) (as_path_ok n (path_in word) a.value a.first) in
    subst IsDest (same_ok a.value p c.next) (dest_legal a.value path (checked _ (BadPath n) _ c.first))

-- Each kind of line has these properties.
is_row : (w : HeadWord) → IsRow (row w).word (row w).read (row w).text (Holds w)
unfolding job_of
is_row head.Job = record {
  printed = λ id h. valued (codes "job") id refl (id_lettered id h) refl;
  again = λ n id h. rw h refl;
  sound = λ n word id is h. job_sound n word id h;
}
is_row head.Dest = record {
  printed = λ p h. record { words = (literal_word (codes "dest") refl, (path_word p h, tt)); kept = path_last p h; shown = refl };
  again = dest_again;
  sound = dest_sound;
}
is_row head.Committer = name_row (codes "committer") committers committer_word committer_is refl (λ v. refl)
is_row head.Tasks = number_row (codes "tasks") 0 1000 (lit< tt) refl (λ v. refl)
is_row head.Mode = name_row (codes "mode") modes mode_word mode_is refl (λ v. refl)
is_row head.Unique = name_row (codes "unique") answers answer_word answer_is refl (λ v. refl)
is_row head.Retries = number_row (codes "retries") 0 9 (lit< tt) refl (λ v. refl)
is_row head.Block = number_row (codes "block") 1 67108864 (lit< tt) refl (λ v. refl)
is_row head.Lanes = number_row (codes "lanes") 1 8 (lit< tt) refl (λ v. refl)
is_row head.Stamp = number_row (codes "stamp") 0 999999999999999999 (lit< tt) refl (λ v. refl)

-- ---- reading a printed head

-- The draft after lines without a fault.
abbrev pub drafted : Group → Head → List Declared → List Event → Draft
drafted g h all es = record { group = g; head = h; attempts = all; outside = None; files = files_in all; bytes = bytes_in all; events = es }

-- The draft after head lines.
abbrev pub headed : Head → Draft
headed h = drafted group.Head h [] []

-- The word of each kind gives the kind.
its_kind : (w : HeadWord) → kind_of (row w).word ≡ Some (kind.Head w)
its_kind head.Job = refl
its_kind w = refl

by_row : (n : ℕ) (w : HeadWord) (h : Head) (values : List (List ℕ)) → head_at n w h values ≡ row_at (row w) n h values
by_row n head.Job h values = refl
by_row n w h values = refl

value_again : (n : ℕ) (w : HeadWord) (h : Head) (x : Value w) → Holds w x → (row w).kept h ≡ None
    → said_at n (kind.Head w) (headed h) ((row w).text x ∷ []) ≡ Ok (headed ((row w).put n (Some x) h))
unfolding said_at
value_again n w h x b none = rw (by_row n w h ((row w).text x ∷ []), (is_row w).again n x b, none) refl

-- The line of a value, if there is one.
value_goes : (n : ℕ) (w : HeadWord) (h : Head) (o : Option (Value w)) → IfSome o (Holds w) → (row w).kept h ≡ None
    → (row w).put n None h ≡ h
    → Goes n (headed h) (value_lines (row w).word (option_map (row w).text o)) (headed ((row w).put n o h))
value_goes n w h None b none same = subst (λ (k : Head). Goes n (headed h) [] (headed k)) (sym same) (goes_nowhere n (headed h))
value_goes n w h (Some x) b none same =
    goes_on n (headed h) (headed ((row w).put n (Some x) h)) ((row w).word ∷ (row w).text x ∷ []) ((is_row w).printed x b)
    (said n (row w).word (kind.Head w) group.Head ((row w).text x ∷ []) (headed h) (headed ((row w).put n (Some x) h)) (its_kind w) refl
    (value_again n w h x b none))

unless_so : (default n : ℕ) (P : ℕ → Type 0) → ((n == default) ≡ false → P n) → IfSome (unless default n) P
unless_so default n P f = grind arith

stamp_fits : (o : Option ℕ) → IfSome o (λ n. n < 10 ^ 18) → IfSome o (Holds head.Stamp)
stamp_fits o h = grind arith

-- The values of a script keep their bounds.
legal_said : (s : Script) → IsLegal s → (w : HeadWord) → IfSome ((row w).said s) (Holds w)
legal_said s h head.Job = h.job
legal_said s h head.Dest = h.dest
legal_said s h head.Tasks = (omega arith, h.tasks)
legal_said s h head.Retries = (omega arith, h.retries)
legal_said s h head.Block = unless_so 0 s.block (Holds head.Block) (λ e. let some = positive s.block e in (omega (arith, some), h.block))
legal_said s h head.Lanes = unless_so 1 s.lanes (Holds head.Lanes) (λ e. (h.one_lane, h.few_lanes))
legal_said s h head.Stamp = stamp_fits s.stamp h.stamp
legal_said s h w = tt

-- The head after the lines of these kinds; the first line has number n.
abbrev pub said_by : Script → ℕ → List HeadWord → Head → Head
said_by s n [] h = h
said_by s n (w ∷ ws) h = said_by s (n + length (row_lines s w)) ws ((row w).put n ((row w).said s) h)

-- Holds if none of these kinds of lines has come before its turn.
abbrev AreFree : Script → ℕ → List HeadWord → Head → Type 0
AreFree s n [] h = Unit {0}
AreFree s n (w ∷ ws) h = ((row w).kept h ≡ None) × ((row w).put n None h ≡ h)
    × AreFree s (n + length (row_lines s w)) ws ((row w).put n ((row w).said s) h)

rows_go : (s : Script) → IsLegal s → (n : ℕ) (ws : List HeadWord) (h : Head) → AreFree s n ws h
    → Goes n (headed h) (flat_map (row_lines s) ws) (headed (said_by s n ws h))
rows_go s l n [] h f = goes_nowhere n (headed h)
rows_go s l n (w ∷ ws) h f =
    goes_through n (headed h) (row_lines s w) (headed ((row w).put n ((row w).said s) h)) (flat_map (row_lines s) ws) _
    (value_goes n w h ((row w).said s) (legal_said s l w) f.0 f.1)
    (rows_go s l (n + length (row_lines s w)) ws ((row w).put n ((row w).said s) h) f.2)

-- Reading the lines of a script's head gives its values.
pub head_goes : (losses : ℕ) (s : Script) → IsLegal s
    → Goes 1 (nothing losses) (flat_map (row_lines s) head_order) (headed (said_by s 1 head_order (no_head losses)))
head_goes losses s l =
    rows_go s l 1 head_order (no_head losses) (
      refl,
      refl,
      (
        refl,
        refl,
        (
          refl,
          refl,
          (
            refl,
            refl,
            (
              refl,
              refl,
              (refl, refl, (refl, refl, (refl, refl, (refl, refl, (refl, refl, tt))))),
            ),
          ),
        ),
      ),
    )

-- ---- what is read keeps the bounds

-- The bounds of the values that the head lines gave.
pub record IsSoundHead (h : Head) : Type 0 where
  pub values : (w : HeadWord) → IfSome ((row w).kept h) (Holds w)
  pub fates : AreFates h.fates

-- The value of a line keeps its bounds beside those of other lines.
put_sound : (w v : HeadWord) (n : ℕ) (x : Value w) (h : Head) → Holds w x → IfSome ((row v).kept h) (Holds v)
    → IfSome ((row v).kept ((row w).put n (Some x) h)) (Holds v)
put_sound head.Job head.Job n x h b old = b
put_sound head.Dest head.Dest n x h b old = b
put_sound head.Committer head.Committer n x h b old = b
put_sound head.Tasks head.Tasks n x h b old = b
put_sound head.Mode head.Mode n x h b old = b
put_sound head.Unique head.Unique n x h b old = b
put_sound head.Retries head.Retries n x h b old = b
put_sound head.Block head.Block n x h b old = b
put_sound head.Lanes head.Lanes n x h b old = b
put_sound head.Stamp head.Stamp n x h b old = b
put_sound w v n x h b old = old

-- No such line gives a fate.
put_fates : (w : HeadWord) (n : ℕ) (x : Value w) (h : Head) → AreFates h.fates → AreFates ((row w).put n (Some x) h).fates
put_fates head.Job n x h f = f
put_fates w n x h f = f

one_word : (values : List (List ℕ)) (w : List ℕ) → one values ≡ Some w → AllByRecursion IsScriptWord values → IsScriptWord w
one_word values w h all = grind arith

row_parts : {A : Type 0} (r : Row A) (n : ℕ) (h k : Head) (values : List (List ℕ)) → row_at r n h values ≡ Ok k → (word : List ℕ) × (x : A)
    × (one values ≡ Some word) × (r.read n word ≡ Ok x) × (r.put n (Some x) h ≡ k)
row_parts r n h k values e = grind arith

-- A line that gives one value keeps the bounds.
pub value_sound : (n : ℕ) (w : HeadWord) (h k : Head) (values : List (List ℕ)) → AllByRecursion IsScriptWord values
    → head_at n w h values ≡ Ok k → IsSoundHead h → IsSoundHead k
value_sound n w h k values words e s =
    let p = row_parts (row w) n h k values (sym (by_row n w h values) ∙ e) in
    let bound = (is_row w).sound n p.0 p.1 (one_word values p.0 p.2 words) p.3 in
    subst IsSoundHead p.4 (record { values = λ v. put_sound w v n p.1 h bound (s.values v); fates = put_fates w n p.1 h s.fates })

-- The head before the first line keeps the bounds.
pub none_sound : (losses : ℕ) (w : HeadWord) → IfSome ((row w).kept (no_head losses)) (Holds w)
none_sound losses head.Job = tt
none_sound losses w = tt
