-- What the tests of replies say.
use Rattle.list_walk.specs.Fitting.{AreKeys, FitsPage, IsKey, is_key}
use Rattle.s3_types.specs.declared.reply.PageEntry.{PageEntry}
use Rattle.s3_types.specs.declared.reply.Reply.{Reply}
use Rattle.s3_types.specs.declared.reply.Reply.TheVariants.{Page}
use Rattle.std.proofs.Common.{Bool, Decides, List, ap, arith, refl, subst, sym, [], ◌∙◌, ◌∷◌, ◌≡◌}
use Rattle.std.proofs.lemmas.Bool.Decides.{Decides-and, Decides-at}
use Rattle.std.specs.List.{list_all}

key_decides : (e : PageEntry) → Decides (is_key e) (IsKey e)
key_decides e = grind arith

pub keys_decide : (es : List PageEntry) → Decides (list_all is_key es) (AreKeys es)
keys_decide [] = (λ _. tt, λ _. refl)
keys_decide (e ∷ es) = Decides-and (is_key e) (list_all is_key es) (key_decides e) (keys_decide es)

pub page_tells : (r : Reply) (entries shown : List PageEntry) (more is : Bool) → r ≡ Page entries more → shown ≡ entries
    → is ≡ list_all is_key shown → Decides is (FitsPage r)
page_tells r entries shown more is e s h = subst (λ x. Decides is (FitsPage x)) (sym e)
    (Decides-at is (list_all is_key entries) (h ∙ ap (list_all is_key) s) (keys_decide entries))
