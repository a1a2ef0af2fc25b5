-- The place of a member among others.
use Rattle.serde_json.specs.Data.{Data, Members, member, put}
use Rattle.std.proofs.Common.{Equal, Greater, Less, List, Ordering, add-one, ap, arith, drop, get_or, insert, is_eq, length, nat_cmp, refl}
use Rattle.std.proofs.Common.{set, sym, take, ℕ, [], ◌++◌, ◌+◌, ◌<◌, ◌∙◌, ◌∷◌, ◌≡◌, ◌≤◌}
use Rattle.std.proofs.lemmas.List.{drop_all, drop_more, set_split, take_all, take_more}
use Rattle.std.proofs.lemmas.Map.Text.{is_eq-slice_cmp}
use Rattle.std.proofs.lemmas.Slice.Eq.{bytes_eq-Decides}
use Rattle.std.specs.Cmp.Lexicographic.{slice_cmp}
use Rattle.std.specs.Ordering.{match_ordering}
use Rattle.trace_lines.specs.Members.{data_of, listed}
use Rattle.trace_lines.specs.declared.line.Member.{Member}

-- These members in front of others.
abbrev pub before : List Member → Members → Members
before [] others = others
before (m ∷ ms) others = member m.name.now (data_of m.value) (before ms others)

-- the first i members have lesser names than this one
abbrev pub Passes : List Member → ℕ → List ℕ → Data → Type 0
Passes all i name d = put name d (listed all) ≡ before (take i all) (put name d (listed (drop i all)))

before_listed : (xs ys : List Member) → before xs (listed ys) ≡ listed (xs ++ ys)
before_listed [] ys = refl
before_listed (x ∷ xs) ys = ap (member x.name.now (data_of x.value)) (before_listed xs ys)

before_more : (xs : List Member) (x : Member) (others : Members)
    → before (xs ++ x ∷ []) others ≡ before xs (member x.name.now (data_of x.value) others)
before_more [] x others = refl
before_more (y ∷ xs) x others = ap (member y.name.now (data_of y.value)) (before_more xs x others)

abbrev at_order : List ℕ → Data → Member → Members → Ordering → Members
at_order name d x others o =
    match_ordering o (member name d (member x.name.now (data_of x.value) others)) (member x.name.now d others)
    (member x.name.now (data_of x.value) (put name d others))

-- The members after a put that comes to member `x` next.
put_by : (all : List Member) (i : ℕ) (name : List ℕ) (d : Data) (x : Member) (o : Ordering) → i < length all → x ≡ get_or all i x
    → slice_cmp nat_cmp name x.name.now ≡ o → Passes all i name d
    → put name d (listed all) ≡ before (take i all) (at_order name d x (listed (drop (i + 1) all)) o)
put_by all i name d x o there is compared passes =
    let rest : drop i all ≡ x ∷ drop (i + 1) all = drop_more all i x there ∙ ap (λ y. y ∷ drop (i + 1) all) (sym is) in
    passes ∙ ap (λ ys. before (take i all) (put name d (listed ys))) rest
    ∙ ap (λ p. before (take i all) (at_order name d x (listed (drop (i + 1) all)) p)) compared

same_name : (s t : List ℕ) → slice_cmp nat_cmp s t ≡ Equal → s ≡ t
same_name s t same = (bytes_eq-Decides s t).0 (sym (is_eq-slice_cmp s t) ∙ ap is_eq same)

-- A member goes in front of the first one with a greater name.
pub put_before : (all : List Member) (i : ℕ) (m x : Member) → i < length all → x ≡ get_or all i x
    → slice_cmp nat_cmp m.name.now x.name.now ≡ Less → Passes all i m.name.now (data_of m.value)
    → listed (insert all i m) ≡ put m.name.now (data_of m.value) (listed all)
put_before all i m x there is less passes =
    let rest : x ∷ drop (i + 1) all ≡ drop i all = ap (λ y. y ∷ drop (i + 1) all) is ∙ sym (drop_more all i x there) in
    sym (put_by all i m.name.now (data_of m.value) x Less there is less passes
    ∙ before_listed (take i all) (m ∷ x ∷ drop (i + 1) all)
    ∙ ap (λ ys. listed (take i all ++ m ∷ ys)) rest)

-- A member replaces the one with its name.
pub put_over : (all : List Member) (i : ℕ) (m x : Member) → i < length all → x ≡ get_or all i x
    → slice_cmp nat_cmp m.name.now x.name.now ≡ Equal → Passes all i m.name.now (data_of m.value)
    → listed (set all i m) ≡ put m.name.now (data_of m.value) (listed all)
put_over all i m x there is same passes =
    let d = data_of m.value in
    sym (put_by all i m.name.now d x Equal there is same passes
    ∙ ap (λ n. before (take i all) (member n d (listed (drop (i + 1) all)))) (sym (same_name m.name.now x.name.now same))
    ∙ before_listed (take i all) (m ∷ drop (i + 1) all)
    ∙ ap (λ k. listed (take i all ++ m ∷ drop k all)) (add-one i)
    ∙ ap listed (sym (set_split all i m there)))

-- A member goes after those with lesser names.
pub put_behind : (all : List Member) (i : ℕ) (m x : Member) → i < length all → x ≡ get_or all i x
    → slice_cmp nat_cmp m.name.now x.name.now ≡ Greater → Passes all i m.name.now (data_of m.value)
    → Passes all (i + 1) m.name.now (data_of m.value)
put_behind all i m x there is greater passes =
    let front : take (i + 1) all ≡ take i all ++ x ∷ [] = take_more all i x there ∙ ap (λ y. take i all ++ y ∷ []) (sym is) in
    let others = put m.name.now (data_of m.value) (listed (drop (i + 1) all)) in
    put_by all i m.name.now (data_of m.value) x Greater there is greater passes
    ∙ sym (before_more (take i all) x others)
    ∙ ap (λ ys. before ys others) (sym front)

-- A member goes to the end if all names are less.
pub put_last : (all : List Member) (i n : ℕ) (m : Member) → length all ≤ i → n ≡ length all → Passes all i m.name.now (data_of m.value)
    → listed (insert all n m) ≡ put m.name.now (data_of m.value) (listed all)
put_last all i n m past end passes =
    let front : take i all ≡ take n all = take_all i all past ∙ sym (take_all n all (omega arith)) in
    let rest : drop i all ≡ drop n all = drop_all i all past ∙ sym (drop_all n all (omega arith)) in
    let d = data_of m.value in
    let ends : put m.name.now d (listed (drop i all)) ≡ listed (m ∷ drop n all) =
    ap (λ ys. put m.name.now d (listed ys)) (drop_all i all past) ∙ ap (λ ys. listed (m ∷ ys)) (sym (drop_all n all (omega arith))) in
    sym (passes ∙ ap (before (take i all)) ends ∙ before_listed (take i all) (m ∷ drop n all) ∙ ap (λ ys. listed (ys ++ m ∷ drop n all))
    front)
