-- A fixed order of checks: each speaks only where all before it accept. Then what an answer is and leaves, once all are made.
--   refuse_if, refuse_first, _andThen_, in_turn      the checks and their order
--   leaves                                        a lent list afterwards
--   figure_of                                      the answer that gives something, such as one number; figure_reply, figure_leaves, figure_value take it apart
use Rattle.std.specs.Prelude.{Bool, true, false, ℕ, zero, suc, ltb, ℤ, pos, Result, Ok, Err}
use Rattle.exact.specs.First.{first}
use Rattle.reply.specs.declared.Refusal.{Refusal}
use Rattle.reply.specs.Reply.{Reply, Figure}

-- one check: where the fault is there, this refusal
abbrev pub refuse_if : Bool → Refusal → Reply
refuse_if true why = Err why
refuse_if false why = Ok tt

-- one check over n things in their order: the first at fault refuses, with its own refusal
abbrev pub refuse_first : ℕ → (ℕ → Bool) → (ℕ → Refusal) → Reply
refuse_first n fault why = refuse_if (ltb (first n fault) n) (why (first n fault))

-- this check, and then that one
infixr 30 ◌and_then◌
abbrev pub ◌and_then◌ : Reply → Reply → Reply
(Ok _) and_then next = next
(Err why) and_then next = Err why

-- the checks of n things in their order, all of one before the next
unfoldable pub in_turn : ℕ → (ℕ → Reply) → Reply
in_turn zero check = Ok tt
in_turn (suc n) check = in_turn n check and_then check n

-- what is lent for an answer holds the answer afterwards, or in a refusal what it held before
abbrev pub leaves : {A : Type 0} → Reply → A → A → A
leaves (Ok _) answer before = answer
leaves (Err why) answer before = before

-- the answer of an operation that has something to give, such as one number: that, where every check accepts
abbrev pub figure_of : {A : Type 0} → Reply → A → Result A Refusal
figure_of (Ok _) v = Ok v
figure_of (Err why) v = Err why

-- that answer as the reply to a caller who lends the place for what is given
abbrev pub figure_reply : {A : Type 0} → Result A Refusal → Reply
figure_reply (Ok v) = Ok tt
figure_reply (Err why) = Err why

-- what then stands there: after a refusal, what stood there before
abbrev pub figure_leaves : {A : Type 0} → Result A Refusal → A → A
figure_leaves (Ok v) before = v
figure_leaves (Err why) before = before

-- that number, where a place that held 0 was lent
unfoldable pub figure_value : Figure → ℤ
figure_value figure = figure_leaves figure (pos 0)
