-- A record sends its tree to a writer, and its text is that of the tree.
use Rattle.pending_json.proofs.Floats.{pending_has_none, set_has_none, success_has_none}
use Rattle.pending_json.specs.Committers.{committer_word}
use Rattle.pending_json.specs.Pending.{Pending}
use Rattle.pending_json.specs.inner.Sending.{SendsMember, SendsSizes, SendsStamp}
use Rattle.pending_json.specs.Trees.{mark_tree, pending_tree, set_tree, success_tree, tag_digits, texts, upload_tree, version_of, whole}
use Rattle.pending_json.specs.Trees.{wholes}
use Rattle.pending_json.specs.declared.records.PendingSet.{PendingSet}
use Rattle.pending_json.specs.declared.records.SuccessMark.{SuccessMark}
use Rattle.s3_types.specs.Tags.{Spelled}
use Rattle.serde.specs.Event.{Log, Logs, WritesEach, WritesSeq, field_key, map_begins, map_ends, seq_begins, seq_ends, text, unsigned}
use Rattle.serde.specs.declared.name.Case.TheVariants.{AsIs}
use Rattle.serde_json.proofs.FreeTexts.{text_of_value}
use Rattle.serde_json.specs.Data.{Data, array, string}
use Rattle.serde_json.specs.Events.{SendsItems, SendsValue, items_len}
use Rattle.serde_json.specs.Sent.{IsTextOf}
use Rattle.serde_json.specs.View.{items_of}
use Rattle.serde_json.specs.Written.{compact_text}
use Rattle.std.proofs.Common.{List, None, Option, Some, ap, codes, is_some, length, map, refl, subst, suc, sym, ℕ, [], ◌∷◌, ◌≡◌}
use Rattle.std.specs.Prelude.{cond}

-- ---- lists

items_count : {A : Type 0} (f : A → Data) (xs : List A) → items_len (items_of (map f xs)) ≡ length xs
items_count f [] = refl
items_count f (x ∷ xs) = ap suc (items_count f xs)

module _ {A : Type 0} (w : A → Log → Log → Type 0) (f : A → Data) (each : (x : A) (old new : Log) → w x old new → SendsValue (f x) old new)
  where
    items_sent : (xs : List A) (first last new : Log) → WritesEach w xs first last → Logs last new seq_ends
        → SendsItems (items_of (map f xs)) first new
    items_sent [] first last new same ended = subst (λ l. Logs l new seq_ends) same ended
    items_sent (x ∷ xs) first last new h ended = (h.0, each x first h.0 h.1, items_sent xs h.0 last new h.2 ended)

    pub seq_sent : (xs : List A) (old new : Log) → WritesSeq w xs old new → SendsValue (array (items_of (map f xs))) old new
    seq_sent xs old new h = (
      h.0,
      subst (λ n. Logs old h.0 (seq_begins (Some n))) (sym (items_count f xs)) h.2,
      items_sent xs h.0 h.1 new h.3
          h.4,
    )

-- Holds if the digits of a tag are written as a text.
abbrev pub WritesTag : Spelled → Log → Log → Type 0
WritesTag tag old new = Logs old new (text (tag_digits tag))

pub said_is : (s t : List ℕ) (old new : Log) → s ≡ t → Logs old new (text s) → Logs old new (text t)
said_is s t old new same h = subst (λ x. Logs old new (text x)) same h

abbrev pub WritesText : List ℕ → Log → Log → Type 0
WritesText s old new = Logs old new (text s)

abbrev pub WritesWhole : ℕ → Log → Log → Type 0
WritesWhole n old new = Logs old new (unsigned n)

at_once : (tags : List Spelled) → map (λ t. string (tag_digits t)) tags ≡ map string (map tag_digits tags)
at_once [] = refl
at_once (t ∷ tags) = ap (λ ds. string (tag_digits t) ∷ ds) (at_once tags)

pub tags_sent : (tags : List Spelled) (old new : Log) → WritesSeq WritesTag tags old new
    → SendsValue (array (texts (map tag_digits tags))) old new
tags_sent tags old new h = subst (λ ds. SendsValue (array (items_of ds)) old new) (at_once tags)
    (seq_sent WritesTag (λ t. string (tag_digits t)) (λ x o n s. s) tags old new h)

pub texts_sent : (all : List (List ℕ)) (old new : Log) → WritesSeq WritesText all old new → SendsValue (array (texts all)) old new
texts_sent all old new h = seq_sent WritesText string (λ x o n s. s) all old new h

pub wholes_sent : (all : List ℕ) (old new : Log) → WritesSeq WritesWhole all old new → SendsValue (array (wholes all)) old new
wholes_sent all old new h = seq_sent WritesWhole whole (λ x o n s. s) all old new h

-- ---- members

pub text_is : (k s t : List ℕ) (old new : Log) → s ≡ t → SendsMember k (string s) old new → SendsMember k (string t) old new
text_is k s t old new same h = subst (λ x. SendsMember k (string x) old new) same h

pub whole_is : (k : List ℕ) (m n : ℕ) (old new : Log) → m ≡ n → SendsMember k (whole m) old new → SendsMember k (whole n) old new
whole_is k m n old new same h = subst (λ x. SendsMember k (whole x) old new) same h

pub tags_are : (k : List ℕ) (ts us : List Spelled) (old new : Log) → ts ≡ us → SendsMember k (array (texts (map tag_digits ts))) old new
    → SendsMember k (array (texts (map tag_digits us))) old new
tags_are k ts us old new same h = subst (λ x. SendsMember k (array (texts (map tag_digits x))) old new) same h

pub texts_are : (k : List ℕ) (ts us : List (List ℕ)) (old new : Log) → ts ≡ us → SendsMember k (array (texts ts)) old new
    → SendsMember k (array (texts us)) old new
texts_are k ts us old new same h = subst (λ x. SendsMember k (array (texts x)) old new) same h

pub uploads_are : (k : List ℕ) (ps qs : List Pending) (old new : Log) → ps ≡ qs
    → SendsMember k (array (items_of (map pending_tree ps))) old new → SendsMember k (array (items_of (map pending_tree qs))) old new
uploads_are k ps qs old new same h = subst (λ x. SendsMember k (array (items_of (map pending_tree x))) old new) same h

pub sizes_are : (ns ms : Option (List ℕ)) (old new : Log) → ns ≡ ms → SendsSizes ns old new → SendsSizes ms old new
sizes_are ns ms old new same h = subst (λ x. SendsSizes x old new) same h

pub begun_with : (m n : ℕ) (old new : Log) → m ≡ n → Logs old new (map_begins (Some m)) → Logs old new (map_begins (Some n))
begun_with m n old new same h = subst (λ x. Logs old new (map_begins (Some x))) same h

module _ (p : Pending) (a b c d e f g h i j k z : Log)
    (attempt : SendsMember (codes "attempt") (whole p.attempt) b c) (bucket : SendsMember (codes "bucket") (string p.bucket) c d)
    (destination : SendsMember (codes "destination") (string p.destination) d e)
    (tags : SendsMember (codes "etags") (array (texts (map tag_digits p.tags))) e f)
    (kind : SendsMember (codes "kind") (string (codes "pending")) f g) (len : SendsMember (codes "length") (whole p.length) g h)
    (task : SendsMember (codes "task") (whole p.task) i j) (upload : SendsMember (codes "upload") (whole p.upload) j k) where
  pub upload_sent : (sizes : Option (List ℕ)) (last : Log) → Logs a b (map_begins (Some (cond (is_some sizes) 10 9))) → SendsSizes sizes h i
      → SendsMember (codes "version") (whole (version_of (is_some sizes))) k last → Logs last z map_ends
      → SendsValue (upload_tree p sizes) a z
  upload_sent None last begun same version ended = (
    b,
    begun,
    (
      attempt.0,
      c,
      attempt.1,
      attempt.2,
      (
        bucket.0,
        d,
        bucket.1,
        bucket.2,
        (
          destination.0,
          e,
          destination.1,
          destination.2,
          (
            tags.0,
            f,
            tags.1,
            tags.2,
            (
              kind.0,
              g,
              kind.1,
              kind.2,
              (
                len.0,
                h,
                len.1,
                len.2,
                (
                  task.0,
                  j,
                  subst (λ l. Logs l task.0 (field_key (codes "task") AsIs)) same
                      task.1,
                  task.2,
                  (upload.0, k, upload.1, upload.2, (version.0, last, version.1, version.2, ended)),
                ),
              ),
            ),
          ),
        ),
      ),
    ),
  )
  upload_sent (Some ns) last begun sizes version ended = (
    b,
    begun,
    (
      attempt.0,
      c,
      attempt.1,
      attempt.2,
      (
        bucket.0,
        d,
        bucket.1,
        bucket.2,
        (
          destination.0,
          e,
          destination.1,
          destination.2,
          (
            tags.0,
            f,
            tags.1,
            tags.2,
            (
              kind.0,
              g,
              kind.1,
              kind.2,
              (
                len.0,
                h,
                len.1,
                len.2,
                (
                  sizes.0,
                  i,
                  sizes.1,
                  sizes.2,
                  (task.0, j, task.1, task.2, (upload.0, k, upload.1, upload.2, (version.0, last, version.1, version.2, ended))),
                ),
              ),
            ),
          ),
        ),
      ),
    ),
  )

module _ (s : PendingSet) (a b c d e f g h z : Log)
    (attempt : SendsMember (codes "attempt") (whole s.attempt) b c) (commits : SendsMember (codes "commits")
    (array (items_of (map pending_tree s.commits))) c d)
    (job : SendsMember (codes "job") (string s.job) d e) (kind : SendsMember (codes "kind") (string (codes "pendingset")) e f)
    (task : SendsMember (codes "task") (whole s.task) f g)
    (version : SendsMember (codes "version") (whole 1) g h) where
  pub set_sent : Logs a b (map_begins (Some 6)) → Logs h z map_ends → SendsValue (set_tree s) a z
  set_sent begun ended = (
    b,
    begun,
    (
      attempt.0,
      c,
      attempt.1,
      attempt.2,
      (
        commits.0,
        d,
        commits.1,
        commits.2,
        (job.0, e, job.1, job.2, (kind.0, f, kind.1, kind.2, (task.0, g, task.1, task.2, (version.0, h, version.1, version.2, ended)))),
      ),
    ),
  )

module _ (m : SuccessMark) (a b c d e f g z : Log)
    (committer : SendsMember (codes "committer") (string (committer_word m.committer)) b c)
    (files : SendsMember (codes "files") (array (texts m.files)) c d)
    (job : SendsMember (codes "job") (string m.job) d e) (kind : SendsMember (codes "kind") (string (codes "success")) e f) where
  pub mark_sent : (stamp : Option ℕ) (last : Log) → Logs a b (map_begins (Some (cond (is_some stamp) 6 5))) → SendsStamp stamp f g
      → SendsMember (codes "version") (whole 1) g last → Logs last z map_ends → SendsValue (mark_tree m stamp) a z
  mark_sent None last begun same version ended = (
    b,
    begun,
    (
      committer.0,
      c,
      committer.1,
      committer.2,
      (
        files.0,
        d,
        files.1,
        files.2,
        (
          job.0,
          e,
          job.1,
          job.2,
          (
            kind.0,
            f,
            kind.1,
            kind.2,
            (
              version.0,
              last,
              subst
                  (λ l. Logs l version.0 (field_key (codes "version") AsIs)) same version.1,
              version.2,
              ended,
            ),
          ),
        ),
      ),
    ),
  )
  mark_sent (Some n) last begun stamp version ended = (
    b,
    begun,
    (
      committer.0,
      c,
      committer.1,
      committer.2,
      (
        files.0,
        d,
        files.1,
        files.2,
        (
          job.0,
          e,
          job.1,
          job.2,
          (
            kind.0,
            f,
            kind.1,
            kind.2,
            (
              stamp.0,
              g,
              stamp.1,
              stamp.2,
              (version.0, last, version.1, version.2, ended),
            ),
          ),
        ),
      ),
    ),
  )

-- ---- the text

pub pending_written : (p : Pending) (log : Log) (bytes : List ℕ) → SendsValue (pending_tree p) (Some []) log → IsTextOf log bytes
    → bytes ≡ compact_text (pending_tree p)
pending_written p log bytes sent h = text_of_value (pending_tree p) log bytes sent h (pending_has_none p)

pub set_written : (s : PendingSet) (log : Log) (bytes : List ℕ) → SendsValue (set_tree s) (Some []) log → IsTextOf log bytes
    → bytes ≡ compact_text (set_tree s)
set_written s log bytes sent h = text_of_value (set_tree s) log bytes sent h (set_has_none s)

pub mark_written : (m : SuccessMark) (log : Log) (bytes : List ℕ) → SendsValue (success_tree m) (Some []) log → IsTextOf log bytes
    → bytes ≡ compact_text (success_tree m)
mark_written m log bytes sent h = text_of_value (success_tree m) log bytes sent h (success_has_none m)
