-- The promises leave nothing open: two replies that keep one promise are equal, and so is what each leaves in the lent lists. Assumes nothing.
--   one_report                        of the report of an archive in memory
--   one_begin, one_next, one_end      of the three operations of a stream
use mathlib.Core.Path.{◌≡◌, sym, subst}
use mathlib.Core.List.{List}
use Prim.Native.Nat.{ℕ}
use Rattle.exact.proofs.Unique.{only}
use Rattle.reply.specs.Reply.{Reply}
use Rattle.season.specs.Promise.{Reports, Begins, Feeds, Ends}

pub one_report : (archive lent : List ℕ) (r r' : Reply) (left left' : List ℕ) → Reports archive lent r left → Reports archive lent r' left' → (r ≡ r') × (left ≡ left')
one_report archive lent r r' left left' a b = (only a.answer b.answer, only a.totals b.totals)

-- what begin and next leave goes by their reply, which is the same
module _ (held totals place : List ℕ) (r r' : Reply) where
  pub one_begin : (t t' p p' : List ℕ) → Begins held totals place r t p → Begins held totals place r' t' p' → (r ≡ r') × ((t ≡ t') × (p ≡ p'))
  one_begin t t' p p' a b =
      let e : r ≡ r' = only a.answer b.answer in let same = subst (λ (x : Reply). Begins held totals place x t' p') (sym e) b in
      (e, (only a.totals_are same.totals_are, only a.place_is same.place_is))

  pub one_next : (bytes h h' t t' p p' : List ℕ) → Feeds bytes held totals place r h t p → Feeds bytes held totals place r' h' t' p' → (r ≡ r') × ((h ≡ h') × ((t ≡ t') × (p ≡ p')))
  one_next bytes h h' t t' p p' a b =
      let e : r ≡ r' = only a.answer b.answer in let same = subst (λ (x : Reply). Feeds bytes held totals place x h' t' p') (sym e) b in
      (e, (only a.held_is same.held_is, (only a.totals_are same.totals_are, only a.place_is same.place_is)))

  pub one_end : (t t' p p' : List ℕ) → Ends held totals place r t p → Ends held totals place r' t' p' → (r ≡ r') × ((t ≡ t') × (p ≡ p'))
  one_end t t' p p' a b = (only a.answer b.answer, (only a.totals_are b.totals_are, only a.place_is b.place_is))
