-- The laws of the rescue's order of checks. Assumes nothing.
--   rescue_lengths, rescue_room    the reply where 21 refuses, for the book's own lists or for those lent for the answer
--   too_many                       over 512 sightings are refused with 21
--   left_lem                       whether something is left, by the reasons of the tables
--   reasons_long, keeps, drops_ordinals, drops_reasons      a list parted by its reasons
--   RoomsFit, rooms_all, rooms_fit_lem      the test of the lent lists, and what it tells
--   refused_keeps, accepted_keeps  a refusal that changes nothing keeps the promise of the rescue, and so do the parts of an accepted list
use mathlib.Core.Path.{◌≡◌, refl, sym, ◌∙◌, ap}
use mathlib.Core.Bool.{Bool, true, false, not, ◌&&◌, and-false, and-true as and_yes}
use Rattle.std.specs.List.{list_all}
use Rattle.std.specs.Prelude.{◌==◌}
use mathlib.Core.List.{List, [], ◌∷◌}
use Prim.Native.Nat.{ℕ, ◌+◌, ◌<◌}
use borrow.Author.Tests.{lt-leb, eqb-true}
use lib.Dec.{eqb, leb, ltb}
use lib.IntN.{ℤ, pos}
use lib.ListN.{length, get_or}
use Rattle.exact.specs.First.{some_below}
use Rattle.exact.specs.Gather.{gather}
use Rattle.exact.specs.Tabulate.{tabulate}
use Rattle.exact.proofs.Filling.{tabulate_length, tabulate_at}
use Rattle.exact.proofs.Gathering.{gather_ext}
use Rattle.exact.proofs.Searching.{first_ext}
use Rattle.reply.specs.Checks.{figure_of, leaves}
use Rattle.reply.specs.Reply.{Reply}
use Rattle.reply.specs.Verdicts.{verdict_of}
use Rattle.reply.specs.declared.Refusal.{Refusal}
use Rattle.reply.specs.declared.Refusal.TheVariants.{Sightings}
use Rattle.station.specs.Bounds.{InRange}
use Rattle.station.specs.Sightings.{Book, sightings, lengths_fit}
use Rattle.station.specs.Table.{counts, readings}
use Rattle.station.specs.Rescue.{place_of, is_kept, is_dropped, reason, ordinals, reasons, nothing_left, rescue_reply, kept, Lent, rooms_fit, rooms, filled, Rescues}
use Rattle.station.specs.Steps.{free, why_after}
use Rattle.station.proofs.Deciding.{fit}
use Rattle.station.proofs.Tests.{and_true}
use Rattle.station.proofs.Sifting.{why_free, kept_free}
use Rattle.std.specs.Prelude.{Ok, Err}

-- ---- the reply
-- over 512 sightings do not fit
pub too_many : (b : Book) → 512 < sightings b → fit b 16 16 ≡ false
unfolding lengths_fit
too_many b l = rw (lt-leb (sightings b) 512 l) (and-false (leb 1 (sightings b)))

pub rescue_lengths : (b : Book) (room : Bool) → fit b 16 16 ≡ false → rescue_reply b room ≡ Err Sightings
unfolding rescue_reply
rescue_lengths b room e = rw e

pub rescue_room : (b : Book) (room : Bool) → room ≡ false → rescue_reply b room ≡ Err Sightings
unfolding rescue_reply
rescue_room b room e = by_fit (fit b 16 16) refl
  where
    by_fit : (t : Bool) → fit b 16 16 ≡ t → rescue_reply b room ≡ Err Sightings
    by_fit true f = rw (f, e)
    by_fit false f = rw f

-- ---- what stays
pub left_lem : (b : Book) → InRange b → nothing_left b ≡ not (some_below (sightings b) (λ h. free (why_after 4 (counts b) (readings b)) (place_of b h)))
unfolding nothing_left
left_lem b s = ap (λ (k : ℕ). not (ltb k (sightings b))) (sym (first_ext (sightings b) _ _ (λ h l. why_free b s 4 h l)))

-- ---- the list parted by its reasons
module _ (b : Book) (rs : List ℕ) (e : rs ≡ tabulate (sightings b) (reason b)) where
  pub reasons_long : length rs ≡ sightings b
  reasons_long = ap length e ∙ tabulate_length (sightings b) (reason b)

  reason_at : (h : ℕ) → h < sightings b → get_or rs h 0 ≡ reason b h
  reason_at h l = ap (λ (l : List ℕ). get_or l h 0) e ∙ tabulate_at (sightings b) (reason b) h 0 l

  free_kept : (h : ℕ) → h < sightings b → free rs h ≡ is_kept b h
  free_kept h l = ap (λ (r : ℕ). eqb r 0) (reason_at h l) ∙ sym (kept_free b h)

  pub keeps : (xs : List ℤ) → gather (length rs) (free rs) (λ h. get_or xs h (pos 0)) ≡ gather (sightings b) (is_kept b) (λ h. get_or xs h (pos 0))
  keeps xs = ap (λ (n : ℕ). gather n (free rs) (λ h. get_or xs h (pos 0))) reasons_long ∙ gather_ext (sightings b) (free rs) (is_kept b) _ _ free_kept (λ h l. refl)

  drops : (f g : ℕ → ℕ) → ((h : ℕ) → h < sightings b → f h ≡ g h) → gather (length rs) (λ h. not (free rs h)) f ≡ gather (sightings b) (is_dropped b) g
  drops f g s = ap (λ (n : ℕ). gather n (λ h. not (free rs h)) f) reasons_long ∙ gather_ext (sightings b) (λ h. not (free rs h)) (is_dropped b) f g (λ h l. ap not (free_kept h l)) s

  pub drops_ordinals : gather (length rs) (λ h. not (free rs h)) (λ h. h + 1) ≡ ordinals b
  drops_ordinals = drops (λ h. h + 1) (λ h. h + 1) (λ h l. refl)

  pub drops_reasons : gather (length rs) (λ h. not (free rs h)) (λ h. get_or rs h 0) ≡ reasons b
  drops_reasons = drops (λ h. get_or rs h 0) (reason b) reason_at

-- the lent lists have the room that is due
pub record RoomsFit (n positions objects faces readings ordinals reasons : ℕ) : Type 0 where
  pub positions_fit : positions ≡ n
  pub objects_fit : objects ≡ n
  pub faces_fit : faces ≡ n
  pub readings_fit : readings ≡ n
  pub ordinals_fit : ordinals ≡ n
  pub reasons_fit : reasons ≡ n

-- the code's test of the six is the rule's
pub rooms_all : (n p o f r d w : ℕ) → list_all (λ room. room == n) (p ∷ o ∷ f ∷ r ∷ d ∷ w ∷ []) ≡ rooms_fit n p o f r d w
unfolding rooms_fit
rooms_all n p o f r d w = ap (λ (t : Bool). eqb p n && (eqb o n && (eqb f n && (eqb r n && (eqb d n && t))))) (and_yes (eqb w n))

pub rooms_fit_lem : (n p o f r d w : ℕ) → rooms_fit n p o f r d w ≡ true → RoomsFit n p o f r d w
unfolding rooms_fit
rooms_fit_lem n p o f r d w e =
    let a = and_true (eqb p n) _ e in let b = and_true (eqb o n) _ a.1 in let c = and_true (eqb f n) _ b.1 in
    let g = and_true (eqb r n) _ c.1 in let h = and_true (eqb d n) (eqb w n) g.1 in
    record {
      positions_fit = eqb-true p n a.0;
      objects_fit = eqb-true o n b.0;
      faces_fit = eqb-true f n c.0;
      readings_fit = eqb-true r n g.0;
      ordinals_fit = eqb-true d n h.0;
      reasons_fit = eqb-true w n h.1;
    }

-- ---- the promise of the rescue
pub refused_keeps : (b : Book) (before : Lent) (why : Refusal) → Err why ≡ rescue_reply b (rooms b before) → Rescues b before (Err why) before
refused_keeps b before why e = record {
  answer = ap (λ (r : Reply). figure_of r (record { kept = sightings (kept b); dropped = length (ordinals b) })) e;
  verdict = ap verdict_of e;
  lists_are = ap (λ (r : Reply). leaves r (filled b before) before) e;
}

pub accepted_keeps : (b : Book) (before after : Lent) (k d : ℕ) → ◌≡◌ {A = Reply} (Ok tt) (rescue_reply b (rooms b before)) → k ≡ sightings (kept b) → d ≡ length (ordinals b) → after ≡ filled b before →
    Rescues b before (Ok (record { kept = k; dropped = d })) after
accepted_keeps b before after k d e p q l = record {
  answer = λ i. figure_of (e i) (record { kept = p i; dropped = q i });
  verdict = ap verdict_of e;
  lists_are = l ∙ ap (λ (r : Reply). leaves r (filled b before) before) e;
}
