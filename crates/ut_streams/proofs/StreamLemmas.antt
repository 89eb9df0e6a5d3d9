-- One step of a stream after another.
use Rattle.std.proofs.Common.{◌≡◌, ℕ, ◌<◌, ◌==◌, List, [], ◌∷◌, ◌++◌, length, take, drop, get_or, length-drop, ◌+◌, Result, Ok, Err, OnOk, None, Some, Bool, true, false, refl, ap, sym, ◌∙◌, append_assoc, append-nil, arith}
use Rattle.std.proofs.Math.Seq.{take-append_seam}
use Rattle.std.proofs.lemmas.List.{take-append-drop, take_more, get_or-drop}
use Rattle.std.specs.Result.{is_ok}
use Rattle.std.proofs.lemmas.Bool.{true≢false, or_parts, eqb-true}
use Rattle.std.specs.Global.{Vec}
use Rattle.std.specs.List.{concat}
use Rattle.ps_lines.proofs.ClosedLemmas.{closed-behind, closed-plain}
use Rattle.ps_lines.proofs.TextsLemmas.{begins-append, begins-self, begins-whole, begins-more, begins-trans}
use Rattle.ps_lines.specs.Texts.{texts_of}
use Rattle.ps_lines.specs.Lines.{lines, has_newline, is_closed, CutsLine}
use Rattle.ps_lines.proofs.LineLemmas.{lines-append, lines-first, lines-held, lines-plain, is_closed-push}
use Rattle.ps_lines.proofs.NewlineLemmas.{has_newline-none}
use Rattle.memchr.specs.Find.{IsLastByte, is_byte}
use Rattle.ps_lines.specs.Texts.{BeginsWith}
use Rattle.ut_streams.specs.Streams.{Wrote, Put, CutsLastLine}

-- a step that wrote what it owed, and another
module _ {Input : Type 0} where
  pub Wrote-trans : (was mid now : Input → List ℕ) (old half new : List ℕ) (whole : Bool) → Wrote was mid old half true → Wrote mid now half new whole → Wrote was now old new whole
  Wrote-trans was mid now old half new whole first second =
      record {
        kept = begins-trans new half old second.kept first.kept;
        grew = λ ok more. second.grew ok more ∙ first.grew refl more;
        part = λ more. rw (← first.grew refl more) (second.part more);
      }

  -- after a step that wanted memory, whatever is due
  pub Wrote-broken : (was mid now : Input → List ℕ) (old new : List ℕ) → Wrote was mid old new false → Wrote was now old new false
  Wrote-broken was mid now old new broken = record { kept = broken.kept; grew = λ ok. absurd (true≢false (sym ok)); part = broken.part }

  -- other names for what is due
  pub Wrote-at : (was was' now now' : Input → List ℕ) (old new : List ℕ) (whole : Bool)
      → ((more : Input) → was' more ≡ was more) → ((more : Input) → now' more ≡ now more) → Wrote was now old new whole → Wrote was' now' old new whole
  Wrote-at was was' now now' old new whole before after wrote =
      record {
        kept = wrote.kept;
        grew = λ ok more. ap (λ due. new ++ due) (after more) ∙ wrote.grew ok more ∙ ap (λ due. old ++ due) (sym (before more));
        part = λ more. rw (before more) (wrote.part more);
      }

  -- a step that writes nothing
  pub Wrote-same : (was now : Input → List ℕ) (old : List ℕ) (whole : Bool) → (whole ≡ true → (more : Input) → now more ≡ was more) → Wrote was now old old whole
  Wrote-same was now old whole same =
      record { kept = begins-self old; grew = λ ok more. ap (λ due. old ++ due) (same ok more); part = λ more. begins-append old (was more) }

  -- a step that puts the front of what is due
  pub Wrote-put : (was now : Input → List ℕ) (text old new : List ℕ) (whole : Bool) → ((more : Input) → was more ≡ text ++ now more) → Put text old new whole → Wrote was now old new whole
  Wrote-put was now text old new whole due put =
      record {
        kept = put.kept;
        grew = λ ok more.
            ap (λ written. written ++ now more) (put.grew ok) ∙ append_assoc old text (now more) ∙ ap (λ due. old ++ due) (sym (due more));
        part = λ more. rw (due more, ← append_assoc old text (now more)) (begins-more (old ++ text) new (now more) put.part);
      }

  -- a step where more is due behind what it writes
  pub Wrote-behind : (was now : Input → List ℕ) (rest old new : List ℕ) (whole : Bool) → Wrote was now old new whole → Wrote (λ more. was more ++ rest) (λ more. now more ++ rest) old new whole
  Wrote-behind was now rest old new whole wrote =
      record {
        kept = wrote.kept;
        grew = λ ok more. sym (append_assoc new (now more) rest) ∙ ap (λ text. text ++ rest) (wrote.grew ok more) ∙ append_assoc old (was more) rest;
        part = λ more. rw (← append_assoc old (was more) rest) (begins-more (old ++ was more) new rest (wrote.part more));
      }

  -- a text that is put before a step
  pub Wrote-put_then : (was now : Input → List ℕ) (text old half new : List ℕ) (whole : Bool) → Put text old half true → Wrote was now half new whole
      → Wrote (λ more. text ++ was more) now old new whole
  Wrote-put_then was now text old half new whole put wrote =
      Wrote-trans (λ more. text ++ was more) was now old half new whole (Wrote-put (λ more. text ++ was more) was text old half true (λ more. refl) put) wrote

  -- and one for which memory was wanted
  pub Wrote-put_stopped : (was now : Input → List ℕ) (text old new : List ℕ) → Put text old new false → Wrote (λ more. text ++ was more) now old new false
  Wrote-put_stopped was now text old new put =
      Wrote-broken (λ more. text ++ was more) was now old new (Wrote-put (λ more. text ++ was more) was text old new false (λ more. refl) put)

-- texts that are put
pub Put-whole : (text old : List ℕ) → Put text old (old ++ text) true
Put-whole text old = record { kept = begins-append old text; grew = λ ok. refl; part = begins-self (old ++ text) }

pub Put-none : (text old : List ℕ) → Put text old old false
Put-none text old = record { kept = begins-self old; grew = λ ok. absurd (true≢false (sym ok)); part = begins-append old text }

pub Put-after : (front back old half new : List ℕ) (whole : Bool) → Put front old half true → Put back half new whole → Put (front ++ back) old new whole
Put-after front back old half new whole first second =
    let written = first.grew refl in
    let joined : half ++ back ≡ old ++ (front ++ back) = ap (λ half. half ++ back) written ∙ append_assoc old front back in
    record {
      kept = begins-trans new half old second.kept first.kept;
      grew = λ ok. second.grew ok ∙ joined;
      part = rw (← joined) second.part;
    }

pub Put-broken : (front back old new : List ℕ) → Put front old new false → Put (front ++ back) old new false
Put-broken front back old new broken =
    record {
      kept = broken.kept;
      grew = λ ok. absurd (true≢false (sym ok));
      part = rw (← append_assoc old front back) (begins-more (old ++ front) new back broken.part);
    }

-- the end of a stream: what is due when nothing comes any more
pub Put-end : {Input : Type 0} (was : Input → List ℕ) (last : Input) (text old new : List ℕ) (whole : Bool) → was last ≡ text → Put text old new whole → Put (was last) old new whole
Put-end was last text old new whole same put = rw same put

pub ruleset puts = (Put-whole, Put-none, Put-after, Put-broken)

-- a piece of those that are to come
pub Wrote-piece : (due due' : List ℕ → List ℕ) (piece rest old new : List ℕ) (whole : Bool)
    → Wrote (λ more. due (piece ++ more)) due' old new whole → Wrote (λ more. due ((piece ++ rest) ++ more)) (λ more. due' (rest ++ more)) old new whole
Wrote-piece due due' piece rest old new whole wrote =
    record {
      kept = wrote.kept;
      grew = λ ok more. wrote.grew ok (rest ++ more) ∙ ap (λ input. old ++ due input) (sym (append_assoc piece rest more));
      part = λ more. rw (append_assoc piece rest more) (wrote.part (rest ++ more));
    }

-- pieces were fed, and one more is
pub Wrote-next : (first due due' : List ℕ → List ℕ) (piece rest old half new : List ℕ) (whole : Bool)
    → Wrote first (λ more. due ((piece ++ rest) ++ more)) old half true → Wrote (λ more. due (piece ++ more)) due' half new whole
    → Wrote first (λ more. due' (rest ++ more)) old new whole
Wrote-next first due due' piece rest old half new whole fed wrote =
    Wrote-trans first (λ more. due ((piece ++ rest) ++ more)) (λ more. due' (rest ++ more)) old half new whole fed
    (Wrote-piece due due' piece rest half new whole wrote)

-- and memory is wanted then
pub Wrote-stopped : (first due due' : List ℕ → List ℕ) (piece rest old half new : List ℕ)
    → Wrote first (λ more. due ((piece ++ rest) ++ more)) old half true → Wrote (λ more. due (piece ++ more)) due' half new false
    → Wrote first due' old new false
Wrote-stopped first due due' piece rest old half new fed wrote =
    Wrote-broken first (λ more. due' (rest ++ more)) due' old new (Wrote-next first due due' piece rest old half new false fed wrote)

-- memory was wanted before the end
pub Put-stopped : {Item : Type 0} (due due' : List Item → List ℕ) (text : List Item) (old new : List ℕ)
    → Wrote (λ more. due (text ++ more)) due' old new false → Put (due text) old new false
Put-stopped due due' text old new broken =
    record {
      kept = broken.kept;
      grew = λ ok. absurd (true≢false (sym ok));
      part = ap (λ input. take (length new) (old ++ due input)) (sym (append-nil text)) ∙ broken.part [];
    }

-- the line whose beginning is held
pub Wrote-held : (due due' : List (List ℕ) → List ℕ) (held text line rest old new : List ℕ) (whole : Bool) → has_newline held ≡ false → CutsLine text line rest
    → Wrote (λ more. due ((held ++ line) ∷ more)) due' old new whole
    → Wrote (λ more. due (lines (held ++ (text ++ more)))) (λ more. due' (lines (rest ++ more))) old new whole
Wrote-held due due' held text line rest old new whole plain cut wrote =
    record {
      kept = wrote.kept;
      grew = λ ok more. wrote.grew ok (lines (rest ++ more)) ∙ ap (λ coming. old ++ due coming) (sym (lines-held held text line rest more plain cut));
      part = λ more. rw (lines-held held text line rest more plain cut) (wrote.part (lines (rest ++ more)));
    }

pub ruleset each_line = (Wrote-put)

-- the lines of a text that is cut after its last newline
pub lines-cut_last : (text closed rest more : List ℕ) → CutsLastLine text closed rest → lines (text ++ more) ≡ lines closed ++ lines (rest ++ more)
lines-cut_last text closed rest more cut =
    ap (λ text. lines (text ++ more)) cut.whole ∙ ap lines (append_assoc closed rest more) ∙ lines-append closed (rest ++ more) cut.ends

-- a search for the last newline cuts the text there
pub CutsLastLine-none : (text : List ℕ) → IsLastByte (is_byte 10) text None → CutsLastLine text [] text
CutsLastLine-none text none =
    record { whole = refl; ends = refl; plain = has_newline-none text (λ place low. none place (omega arith) low) }

pub CutsLastLine-some : (text : List ℕ) (end : ℕ) → IsLastByte (is_byte 10) text (Some end) → CutsLastLine text (take (end + 1) text) (drop (end + 1) text)
CutsLastLine-some text end found =
    let newline : get_or text end 0 ≡ 10 = eqb-true (get_or text end 0) 10 found.1 in
    let front : take (end + 1) text ≡ take end text ++ 10 ∷ [] = take_more text end 0 found.0.high ∙ ap (λ byte. take end text ++ byte ∷ []) newline in
    record {
      whole = sym (take-append-drop (end + 1) text);
      ends = ap is_closed front ∙ is_closed-push (take end text) 10;
      plain = has_newline-none (drop (end + 1) text) (λ place low is. found.0.after (end + 1 + place) (omega arith) (grind (arith, length-drop)) (ap (λ byte. byte == 10) (sym (get_or-drop (end + 1) text place 0)) ∙ is));
    }

-- lines of a closed text were done, and one more is
pub closed-rest : (text line rest : List ℕ) → CutsLine text line rest → is_closed text ≡ true → is_closed rest ≡ true
closed-rest text line rest cut closed = closed-behind line rest (ap is_closed (sym cut.whole) ∙ closed)

pub Wrote-next_line : (first due due' : List (List ℕ) → List ℕ) (text line rest old half new : List ℕ) (whole : Bool) → CutsLine text line rest
    → Wrote first (λ more. due (lines text ++ more)) old half true → Wrote (λ more. due (line ∷ more)) due' half new whole
    → Wrote first (λ more. due' (lines rest ++ more)) old new whole
Wrote-next_line first due due' text line rest old half new whole cut done wrote =
    Wrote-trans first (λ more. due (lines text ++ more)) (λ more. due' (lines rest ++ more)) old half new whole done
    (record {
      kept = wrote.kept;
      grew = λ ok more. wrote.grew ok (lines rest ++ more) ∙ ap (λ coming. half ++ due (coming ++ more)) (sym (lines-first text line rest cut));
      part = λ more. rw (lines-first text line rest cut) (wrote.part (lines rest ++ more));
    })

-- memory is wanted at a line
pub Wrote-line_stopped : (first now due due' : List (List ℕ) → List ℕ) (text line rest old half new : List ℕ) → CutsLine text line rest
    → Wrote first (λ more. due (lines text ++ more)) old half true → Wrote (λ more. due (line ∷ more)) due' half new false → Wrote first now old new false
Wrote-line_stopped first now due due' text line rest old half new cut done broken =
    Wrote-broken first (λ more. due' (lines rest ++ more)) now old new (Wrote-next_line first due due' text line rest old half new false cut done broken)

-- whole lines of a text are done
pub Wrote-whole_lines : (due due' : List (List ℕ) → List ℕ) (text closed rest old new : List ℕ) (whole : Bool) → CutsLastLine text closed rest
    → Wrote (λ more. due (lines closed ++ more)) due' old new whole → Wrote (λ more. due (lines (text ++ more))) (λ more. due' (lines (rest ++ more))) old new whole
Wrote-whole_lines due due' text closed rest old new whole cut wrote =
    record {
      kept = wrote.kept;
      grew = λ ok more. wrote.grew ok (lines (rest ++ more)) ∙ ap (λ coming. old ++ due coming) (sym (lines-cut_last text closed rest more cut));
      part = λ more. rw (lines-cut_last text closed rest more cut) (wrote.part (lines (rest ++ more)));
    }

-- the last line, that no newline ended
pub lines_left : (held : List ℕ) → has_newline held ≡ false → 0 < length held → lines (held ++ []) ≡ held ∷ []
lines_left held plain some = ap lines (append-nil held) ∙ lines-plain held plain some

pub Put-last : (due due' : List (List ℕ) → List ℕ) (coming : List (List ℕ)) (line old half new : List ℕ) (whole : Bool) → coming ≡ line ∷ []
    → Wrote (λ more. due (line ∷ more)) due' old half true → Put (due' []) half new whole → Put (due coming) old new whole
Put-last due due' coming line old half new whole is wrote put =
    let grown : half ++ due' [] ≡ old ++ due coming = wrote.grew refl [] ∙ ap (λ coming. old ++ due coming) (sym is) in
    record { kept = begins-trans new half old put.kept wrote.kept; grew = λ ok. put.grew ok ∙ grown; part = rw (← grown) put.part }

pub Put-last_stopped : (due due' : List (List ℕ) → List ℕ) (coming : List (List ℕ)) (line old new : List ℕ) → coming ≡ line ∷ []
    → Wrote (λ more. due (line ∷ more)) due' old new false → Put (due coming) old new false
Put-last_stopped due due' coming line old new is broken =
    record { kept = broken.kept; grew = λ ok. absurd (true≢false (sym ok)); part = rw is (broken.part []) }

pub some_bytes : (text : List ℕ) → false ≡ (length text == 0) → 0 < length text
some_bytes [] none = absurd (true≢false (sym none))
some_bytes (byte ∷ bytes) some = omega arith

-- the line that is held is done, and then the rest of the text
pub Wrote-held_then : (now : List ℕ → List ℕ) (due due' : List (List ℕ) → List ℕ) (held text line rest old half new : List ℕ) (whole : Bool)
    → has_newline held ≡ false → CutsLine text line rest
    → Wrote (λ more. due ((held ++ line) ∷ more)) due' old half true → Wrote (λ more. due' (lines (rest ++ more))) now half new whole
    → Wrote (λ more. due (lines (held ++ (text ++ more)))) now old new whole
Wrote-held_then now due due' held text line rest old half new whole plain cut first second =
    Wrote-trans (λ more. due (lines (held ++ (text ++ more)))) (λ more. due' (lines (rest ++ more))) now old half new whole
    (Wrote-held due due' held text line rest old half true plain cut first) second

pub Wrote-held_stopped : (now : List ℕ → List ℕ) (due due' : List (List ℕ) → List ℕ) (held text line rest old new : List ℕ)
    → has_newline held ≡ false → CutsLine text line rest
    → Wrote (λ more. due ((held ++ line) ∷ more)) due' old new false → Wrote (λ more. due (lines (held ++ (text ++ more)))) now old new false
Wrote-held_stopped now due due' held text line rest old new plain cut broken =
    Wrote-broken (λ more. due (lines (held ++ (text ++ more)))) (λ more. due' (lines (rest ++ more))) now old new
    (Wrote-held due due' held text line rest old new false plain cut broken)

pub OnOk-then : {T E : Type 0} (result : Result T E) (fact then : Type 0) → (fact → then) → OnOk result fact → OnOk result then
OnOk-then (Ok value) fact then step holds = step holds
OnOk-then (Err error) fact then step holds = tt

pub OnOk-is_ok : {T E : Type 0} (result : Result T E) (fact : Type 0) → OnOk result fact → is_ok result ≡ true → fact
OnOk-is_ok (Ok value) fact holds ok = holds
OnOk-is_ok (Err error) fact holds ok = absurd (true≢false (sym ok))

-- and the beginning of a line after them is held
pub Wrote-then_hold : (due due' : List (List ℕ) → List ℕ) (text closed rest held old new : List ℕ) (whole : Bool) → CutsLastLine text closed rest
    → Wrote (λ more. due (lines closed ++ more)) due' old new true → (whole ≡ true → held ≡ rest)
    → Wrote (λ more. due (lines (text ++ more))) (λ more. due' (lines (held ++ more))) old new whole
Wrote-then_hold due due' text closed rest held old new whole cut wrote holds =
    Wrote-trans (λ more. due (lines (text ++ more))) (λ more. due' (lines (rest ++ more))) (λ more. due' (lines (held ++ more))) old new new whole
    (Wrote-whole_lines due due' text closed rest old new true cut wrote)
    (Wrote-same (λ more. due' (lines (rest ++ more))) (λ more. due' (lines (held ++ more))) new whole (λ ok more. ap (λ held. due' (lines (held ++ more))) (holds ok)))

pub Wrote-whole_stopped : (now : List ℕ → List ℕ) (due due' : List (List ℕ) → List ℕ) (text closed rest old new : List ℕ) → CutsLastLine text closed rest
    → Wrote (λ more. due (lines closed ++ more)) due' old new false → Wrote (λ more. due (lines (text ++ more))) now old new false
Wrote-whole_stopped now due due' text closed rest old new cut broken =
    Wrote-broken (λ more. due (lines (text ++ more))) (λ more. due' (lines (rest ++ more))) now old new
    (Wrote-whole_lines due due' text closed rest old new false cut broken)

-- a closed text is done to its end
pub Wrote-last_line : (first due : List (List ℕ) → List ℕ) (text old new : List ℕ) → is_closed text ≡ true → has_newline text ≡ false
    → Wrote first (λ more. due (lines text ++ more)) old new true → Wrote first due old new true
Wrote-last_line first due text old new closed plain done =
    Wrote-at first first (λ more. due (lines text ++ more)) due old new true (λ more. refl)
    (λ more. ap (λ text. due (lines text ++ more)) (sym (closed-plain text closed plain))) done

-- one more piece
pub texts_of-push : (pieces : List (Vec ℕ)) (piece : Vec ℕ) → concat (texts_of (pieces ++ piece ∷ [])) ≡ concat (texts_of pieces) ++ piece.items
texts_of-push [] piece = append-nil piece.items
texts_of-push (first ∷ pieces) piece =
    ap (λ rest. first.items ++ rest) (texts_of-push pieces piece) ∙ sym (append_assoc first.items (concat (texts_of pieces)) piece.items)

pub ruleset pieces = (texts_of-push, append_assoc, append-nil)

-- nothing is left of the text
pub all_given : (front left text : List ℕ) → length left < 1 → front ++ left ≡ text → front ≡ text
all_given front [] text none given = sym (append-nil front) ∙ given
all_given front (byte ∷ left) text none given = absurd (omega arith)
