-- A text on its way into a sink, when more bytes are held or sent.
use Rattle.std.proofs.Common.{◌≡◌, ℕ, ◌+◌, ◌<◌, ◌≤◌, Bool, true, false, List, [], ◌++◌, length, take, refl, sym, ap, ◌∙◌, subst, inl, inr, ◌⊎◌, arith, append_assoc, append-nil, length-append, suc, drop, drop-cons, flat_map, get_or, add-one}
use Rattle.std.specs.Prelude.{Option}
use Rattle.std.specs.Io.KnownBytes.{Appends}
use Rattle.std.proofs.KnownBytes.{Appends-trans}
use Rattle.std.proofs.Math.Seq.{take-append-add}
use Rattle.std.proofs.lemmas.Bool.{cases_lt}
use Rattle.std.proofs.lemmas.List.{drop_all, take-append-le}
use Rattle.coati_io.specs.Causes.{Rose}
use Rattle.coati_io.specs.declared.pieces.Pieces.{Pieces}
use Rattle.coati_io.specs.Sending.{IsOnItsWay, IsSending, Puts, SendsOn}
use Rattle.coati_io.specs.Writing.{OutputEdge, WritesFront, output_edge}

-- where a front of a text was written, it is one of a longer text too
front_of_more : (output : OutputEdge) (text bytes : List ℕ) → WritesFront output text → WritesFront output (text ++ bytes)
front_of_more output text bytes front = record {
  failed = front.failed;
  short = omega (arith, front.short, length-append text bytes);
  sent = front.sent;
  some_left = omega (arith, front.some_left, length-append text bytes);
  front = rw (take-append-le front.sent text bytes (omega (arith, front.some_left))) front.front;
}

-- bytes that are held are on their way
pub held_more : (failed : Bool) (output : OutputEdge) (left : ℕ) (held text bytes : List ℕ) → IsOnItsWay failed output left held text
    → IsOnItsWay failed output left (held ++ bytes) (text ++ bytes)
held_more false output left held text bytes going = record {
  sent = going.sent;
  whole = sym (append_assoc going.sent held bytes) ∙ ap (λ (t : List ℕ). t ++ bytes) going.whole;
  front = going.front;
  later = going.later;
  steady = going.steady;
}
held_more true output left held text bytes front = front_of_more output text bytes front

-- a count that rose from a later one rose from an earlier one too
rose_later : (start mid new : ℕ) → start ≤ mid → Rose mid new → Rose start new
rose_later start mid new later rose = grind arith

module _ {K : Type 0} (taken : K → Option (List ℕ)) (faults spare : K → ℕ) where
  -- what a sink that went to `mid` then takes, with what it took before
  sent_on : (failed : Bool) (start mid new : K) (sent bytes : List ℕ) → Appends (taken start) (taken mid) sent → faults start ≤ faults mid
      → (length sent ≤ spare start → (faults mid ≡ faults start) × (spare start ≤ spare mid + length sent))
      → IsOnItsWay failed (output_edge taken faults spare mid new) (spare new) [] bytes
      → IsOnItsWay failed (output_edge taken faults spare start new) (spare new) [] (sent ++ bytes)
  sent_on false start mid new sent bytes front later steady next = record {
    sent = sent ++ next.sent;
    whole = append_assoc sent next.sent [] ∙ ap (λ (t : List ℕ). sent ++ t) next.whole;
    front = Appends-trans (taken start) (taken mid) (taken new) sent next.sent front next.front;
    later = omega (arith, later, next.later);
    steady = λ fits.
        let before = steady (omega (arith, fits, length-append sent next.sent)) in
        let now = next.steady (omega (arith, fits, before.1, length-append sent next.sent)) in
        (now.0 ∙ before.0, omega (arith, before.1, now.1, length-append sent next.sent));
  }
  sent_on true start mid new sent bytes front later steady next = record {
    failed = rose_later (faults start) (faults mid) (faults new) later next.failed;
    short = short (cases_lt (spare start) (length sent));
    sent = length sent + next.sent;
    some_left = omega (arith, next.some_left, length-append sent bytes);
    front = rw (take-append-add sent bytes next.sent) (Appends-trans (taken start) (taken mid) (taken new) sent (take next.sent bytes) front next.front);
  } where
    short : (spare start < length sent) ⊎ (length sent ≤ spare start) → spare start < length (sent ++ bytes)
    short (inl less) = omega (arith, less, length-append sent bytes)
    short (inr fits) = omega (arith, (steady fits).1, next.short, length-append sent bytes)

  -- the last bytes of a text are sent to a sink that has not failed
  pub sends_on : (fails : Bool) (old new : K) (bytes : List ℕ) → IsOnItsWay fails (output_edge taken faults spare old new) (spare new) [] bytes
      → SendsOn taken faults spare false old bytes new fails
  sends_on fails old new bytes next = λ start text going.
      subst (IsOnItsWay fails (output_edge taken faults spare start new) (spare new) []) going.whole
      (sent_on fails start old new going.sent bytes going.front going.later going.steady next)

  -- nothing was put, and what was held was sent
  pub puts_nothing : (old new : Pieces K) → new.sink.ghost_name ≡ old.sink.ghost_name → new.piece.now ≡ []
      → SendsOn taken faults spare old.failed old.sink.now old.piece.now new.sink.now new.failed → Puts taken faults spare old new []
  puts_nothing old new same none sends = record {
    same_sink = same;
    sends = λ start text sending.
        rw (append-nil text, none) (sends start text sending);
  }

  -- bytes were put and sent, where nothing was held
  pub puts_sent : (old new : Pieces K) (bytes : List ℕ) → new.sink.ghost_name ≡ old.sink.ghost_name → old.piece.now ≡ [] → new.piece.now ≡ []
      → SendsOn taken faults spare old.failed old.sink.now bytes new.sink.now new.failed → Puts taken faults spare old new bytes
  puts_sent old new bytes same empty none sends = record {
    same_sink = same;
    sends = λ start text sending.
        rw none (sends start (text ++ bytes) (held_more old.failed _ _ [] text bytes (rw empty at sending)));
  }

module _ {K : Type 0} {taken : K → Option (List ℕ)} {faults spare : K → ℕ} where
  -- bytes were put, and then more bytes
  pub puts_then : {old mid new : Pieces K} {bytes more : List ℕ} → Puts taken faults spare old mid bytes → Puts taken faults spare mid new more
      → Puts taken faults spare old new (bytes ++ more)
  puts_then {old} {mid} {new} {bytes} {more} first second = record {
    same_sink = second.same_sink ∙ first.same_sink;
    sends = λ start text sending.
        subst (λ (t : List ℕ). IsSending taken faults spare start new t) (append_assoc text bytes more)
        (second.sends start (text ++ bytes) (first.sends start text sending));
  }

  -- the same bytes, otherwise written
  pub puts_same : {old new : Pieces K} {bytes same : List ℕ} → Puts taken faults spare old new bytes → bytes ≡ same → Puts taken faults spare old new same
  puts_same {old} {new} puts is = subst (Puts taken faults spare old new) is puts

  -- nothing was done
  pub puts_none : {pieces : Pieces K} → Puts taken faults spare pieces pieces []
  puts_none {pieces} = record {
    same_sink = refl;
    sends = λ start text sending. rw (append-nil text) sending;
  }

module _ {K : Type 0} (taken : K → Option (List ℕ)) (faults spare : K → ℕ) where
  -- whoever puts the rest puts all
  pub record PutsRest (old now : Pieces K) (rest all : List ℕ) : Type 0 where
    pub whole : (end : Pieces K) → Puts taken faults spare now end rest → Puts taken faults spare old end all

module _ {K : Type 0} {taken : K → Option (List ℕ)} {faults spare : K → ℕ} where
  -- the front of the rest is put
  pub rest_less : {old now next : Pieces K} {left bytes rest all : List ℕ} → PutsRest taken faults spare old now left all → left ≡ bytes ++ rest
      → Puts taken faults spare now next bytes → PutsRest taken faults spare old next rest all
  rest_less before is puts = record { whole = λ end more. before.whole end (puts_same (puts_then puts more) (sym is)) }

  -- nothing is left
  pub rest_none : {old now : Pieces K} {left all : List ℕ} → PutsRest taken faults spare old now left all → left ≡ [] → Puts taken faults spare old now all
  rest_none {old} {now} {left} {all} before none =
      before.whole now (puts_same puts_none (sym none))

  -- a text for each of the items: that of the item at `i` is put
  pub items_less : {X : Type 0} {old now next : Pieces K} {all : List ℕ} (f : X → List ℕ) (xs : List X) (i : ℕ) (d : X) → i < length xs
      → PutsRest taken faults spare old now (flat_map f (drop i xs)) all → Puts taken faults spare now next (f (get_or xs i d))
      → PutsRest taken faults spare old next (flat_map f (drop (i + 1) xs)) all
  items_less f xs i d within before puts = rest_less before (rw (add-one i) (ap (flat_map f) (drop-cons xs i d within))) puts

  -- the texts of all items are put
  pub items_none : {X : Type 0} {old now : Pieces K} {all : List ℕ} (f : X → List ℕ) (xs : List X) (i : ℕ) → length xs ≤ i
      → PutsRest taken faults spare old now (flat_map f (drop i xs)) all → Puts taken faults spare old now all
  items_none f xs i over before = rest_none before (ap (flat_map f) (drop_all i xs over))
