-- The aggregate of several texts, from the left, is what one stream makes of all of them.
use Rattle.std.proofs.Common.{◌≡◌, ℕ, zero, suc, ◌+◌, ◌-◌, ◌≤◌, ◌==◌, List, [], ◌∷◌, ◌++◌, Bool, true, false, not, ◌&&◌, nat_le, nat_lt, if◌then◌else◌, map, get_or, refl, ap, sym, ◌∙◌, append_assoc, append-nil, arith}
use Rattle.std.specs.List.{range_with_len}
use Rattle.std.specs.declared.cmp.Ordering.{Ordering}
use Rattle.std.proofs.Math.Dec.{eqb-suc-zero}
use Rattle.std.proofs.lemmas.Bool.{le-leb, le-ltb, lt-ltb}
use Rattle.ps_lines.specs.Lines.{are_lines, closing, has_newline, lines, text_of_lines}
use Rattle.ps_lines.proofs.LineLemmas.{are_lines-lines, is_closed-closing, lines-append, lines-closing, lines-text_of_lines}
use Rattle.ut_args.specs.Built.{is_built_tail, is_built_uniq}
use Rattle.ut_args.specs.declared.HeadInv.{HeadInv}
use Rattle.ut_args.specs.declared.SortInv.{SortInv}
use Rattle.ut_args.specs.declared.TailInv.{TailInv}
use Rattle.ut_args.specs.declared.TrInv.{TrInv}
use Rattle.ut_args.specs.declared.UniqInv.{UniqInv}
use Rattle.ut_args.specs.declared.invocations.Inv.{Inv}
use Rattle.ut_args.specs.declared.invocations.Inv.TheVariants as inv
use Rattle.ut_bytes.specs.Tr.{squeezed}
use Rattle.ut_bytes.proofs.SqueezeLemmas.{squeezed-on}
use Rattle.ut_groups.specs.Uniq.{form_kept, groups_kept, groups_of_lines, skip_of}
use Rattle.ut_groups.proofs.UniqLemmas.{groups-again}
use Rattle.ut_slices.specs.Ends.{first_lines}
use Rattle.ut_slices.specs.Tail.{tail_output}
use Rattle.ut_sort.specs.Merging.{merged, merged_all, merged_of, merged_texts}
use Rattle.ut_sort.specs.Order.{order_of}
use Rattle.ut_sort.proofs.MergingLemmas.{are_lines-merged}
use Rattle.fl_graph.specs.declared.kinds.NodeKind.TheVariants as kind
use Rattle.fl_graph.specs.declared.pieces.Act.{Act}
use Rattle.fl_classes.specs.Aggregates.{aggregate_from, aggregate_of, joined_maps}
use Rattle.fl_classes.specs.Kinds.{is_from_end}
use Rattle.fl_classes.specs.Nodes.{Begins, texts_at}
use Rattle.fl_classes.proofs.ClassLemmas.{built-utility, uniq-joins}
use Rattle.fl_machines.specs.AtPorts.{due_at_ports}
use Rattle.fl_machines.specs.Through.{only_port}
use Rattle.fl_joints.specs.Joints.{closing_rest, gathered_on, joined_by, joined_from, joined_lines_from}
use Rattle.fl_joints.proofs.EndLemmas.{ends-again, first-again}
use Rattle.fl_joints.proofs.JoinLemmas.{get_or-one}

module _ (texts : ℕ → List ℕ) where
  -- the lines of the texts at so many ports from one on
  abbrev lines_from : ℕ → ℕ → List (List ℕ)
  lines_from from zero = []
  lines_from from (suc count) = lines (texts from) ++ lines_from (from + 1) count

  closing_rest-whole : (text : List ℕ) → closing_rest false text ≡ closing text
  closing_rest-whole [] = refl
  closing_rest-whole (byte ∷ text) = refl

  -- are those of the texts joined, each but the last closed
  lines-joined : (from count : ℕ) → lines (joined_lines_from false texts from count) ≡ lines_from from count
  lines-joined from zero = refl
  lines-joined from (suc zero) = sym (append-nil (lines (texts from)))
  lines-joined from (suc (suc count)) =
      ap (λ front. lines (front ++ joined_lines_from false texts (from + 1) (suc count))) (closing_rest-whole (texts from))
      ∙ lines-append (closing (texts from)) (joined_lines_from false texts (from + 1) (suc count)) (is_closed-closing (texts from))
      ∙ (λ i. lines-closing (texts from) i ++ lines-joined (from + 1) (suc count) i)

  are-both : (front back : List (List ℕ)) → are_lines front ≡ true → are_lines back ≡ true → are_lines (front ++ back) ≡ true
  are-both [] back are are' = are'
  are-both (line ∷ front) back are are' = by_line (not (has_newline line)) are (λ rest. are-both front back rest are')
    where
      by_line : (test : Bool) → (test && are_lines front) ≡ true → (are_lines front ≡ true → are_lines (front ++ back) ≡ true) → (test && are_lines (front ++ back)) ≡ true
      by_line true are both = both are
      by_line false are both = are

  -- uniq: groups that are joined again
  module _ (uniq : UniqInv) (built : is_built_uniq uniq.args ≡ true) where
    abbrev groups_made : List (List ℕ) → List ℕ
    groups_made all = groups_of_lines (skip_of uniq.args) (form_kept uniq.args.groups) (groups_kept uniq.args.groups) all

    aggregate-groups : (all : List (List ℕ)) (from count : ℕ) → are_lines all ≡ true
        → aggregate_from (inv.Uniq uniq) (groups_made all) (map texts (range_with_len from count)) ≡ groups_made (all ++ lines_from from count)
    aggregate-groups all from zero are = ap groups_made (sym (append-nil all))
    aggregate-groups all from (suc count) are =
        ap (λ first. aggregate_from (inv.Uniq uniq) first (map texts (range_with_len (from + 1) count)))
        (uniq-joins uniq built (groups_made all) (texts from) ∙ groups-again uniq.args all (lines (texts from)) are)
        ∙ aggregate-groups (all ++ lines (texts from)) (from + 1) count (are-both all (lines (texts from)) are (are_lines-lines (texts from)))
        ∙ ap groups_made (append_assoc all (lines (texts from)) (lines_from (from + 1) count))

    pub groups-joined : (ins : ℕ) → 2 ≤ ins → groups_made (lines (joined_by true false texts 0 ins)) ≡ aggregate_of (inv.Uniq uniq) (texts_at ins texts)
    groups-joined zero some = absurd (omega arith)
    groups-joined (suc zero) some = absurd (omega arith)
    groups-joined (suc (suc ins)) some =
        ap groups_made (lines-joined 0 (suc (suc ins)) ∙ sym (append_assoc (lines (texts 0)) (lines (texts (0 + 1))) (lines_from ((0 + 1) + 1) ins)))
        ∙ sym (aggregate-groups (lines (texts 0) ++ lines (texts (0 + 1))) ((0 + 1) + 1) ins
        (are-both (lines (texts 0)) (lines (texts (0 + 1))) (are_lines-lines (texts 0)) (are_lines-lines (texts (0 + 1)))))
        ∙ sym (ap (λ first. aggregate_from (inv.Uniq uniq) first (map texts (range_with_len ((0 + 1) + 1) ins))) (uniq-joins uniq built (texts 0) (texts (0 + 1))))

  -- what is made of the texts joined as they are, where nothing is lost by making it of those in front first
  module _ (inv : Inv) (made : List ℕ → List ℕ) (joins : (first second : List ℕ) → joined_maps inv first second ≡ made (first ++ second))
      (again : (front back : List ℕ) → made (made front ++ back) ≡ made (front ++ back)) where
    aggregate-made : (all : List ℕ) (from count : ℕ) → aggregate_from inv (made all) (map texts (range_with_len from count)) ≡ made (all ++ joined_from texts from count)
    aggregate-made all from zero = ap made (sym (append-nil all))
    aggregate-made all from (suc count) =
        ap (λ first. aggregate_from inv first (map texts (range_with_len (from + 1) count))) (joins (made all) (texts from) ∙ again all (texts from))
        ∙ aggregate-made (all ++ texts from) (from + 1) count
        ∙ ap made (append_assoc all (texts from) (joined_from texts (from + 1) count))

    made-joined : (ins : ℕ) → 2 ≤ ins → made (joined_by false false texts 0 ins) ≡ aggregate_of inv (texts_at ins texts)
    made-joined zero some = absurd (omega arith)
    made-joined (suc zero) some = absurd (omega arith)
    made-joined (suc (suc ins)) some =
        ap made (sym (append_assoc (texts 0) (texts (0 + 1)) (joined_from texts ((0 + 1) + 1) ins)))
        ∙ sym (aggregate-made (texts 0 ++ texts (0 + 1)) ((0 + 1) + 1) ins)
        ∙ sym (ap (λ first. aggregate_from inv first (map texts (range_with_len ((0 + 1) + 1) ins))) (joins (texts 0) (texts (0 + 1))))

  -- tr: bytes that are squeezed again
  pub seams-joined : (tr : TrInv) (ins : ℕ) → 2 ≤ ins → squeezed tr.args (joined_by false false texts 0 ins) ≡ aggregate_of (inv.Tr tr) (texts_at ins texts)
  seams-joined tr =
      made-joined (inv.Tr tr) (squeezed tr.args) (λ first second. ap (λ utility. utility.aggregate first second) (built-utility (inv.Tr tr) refl)) (squeezed-on tr.args)

  -- head: the first of the first lines
  pub heads-joined : (head : HeadInv) (ins : ℕ) → 2 ≤ ins → first_lines head.args.count (joined_by false false texts 0 ins) ≡ aggregate_of (inv.Head head) (texts_at ins texts)
  heads-joined head =
      made-joined (inv.Head head) (first_lines head.args.count) (λ first second. ap (λ utility. utility.aggregate first second) (built-utility (inv.Head head) refl)) (first-again head.args.count)

  -- tail: the last of the last lines or bytes
  pub tails-joined : (tail : TailInv) → is_built_tail tail.args ≡ true → is_from_end tail.args.part.origin ≡ true
      → (ins : ℕ) → 2 ≤ ins → tail_output tail.args (joined_by false false texts 0 ins) ≡ aggregate_of (inv.Tail tail) (texts_at ins texts)
  tails-joined tail built from_end =
      made-joined (inv.Tail tail) (tail_output tail.args) (λ first second. ap (λ utility. utility.aggregate first second) (built-utility (inv.Tail tail) built))
      (ends-again tail.args.part.unit tail.args.part.origin from_end)

  -- sort: texts that are merged again
  module _ (sort : SortInv) where
    abbrev cmp : List ℕ → List ℕ → Ordering
    cmp = order_of sort.args

    abbrev port_lines : ℕ → List (List ℕ)
    port_lines port = lines (texts port)

    sort-joins : (first second : List ℕ) → joined_maps (inv.Sort sort) first second ≡ merged_texts cmp sort.args.unique first second
    sort-joins first second = ap (λ utility. utility.aggregate first second) (built-utility (inv.Sort sort) refl)

    are-all : (count : ℕ) → are_lines (merged_all cmp sort.args.unique port_lines count) ≡ true
    are-all zero = refl
    are-all (suc count) = are_lines-merged cmp sort.args.unique (merged_all cmp sort.args.unique port_lines count) (port_lines count) (are-all count) (are_lines-lines (texts count))

    aggregate-merged : (from count : ℕ) → aggregate_from (inv.Sort sort) (merged_of cmp sort.args.unique texts from) (map texts (range_with_len from count)) ≡ merged_of cmp sort.args.unique texts (from + count)
    aggregate-merged from zero = let all : from ≡ from + 0 = omega arith in ap (merged_of cmp sort.args.unique texts) all
    aggregate-merged from (suc count) =
        let next : suc from ≡ from + 1 = omega arith in
        let all : (from + 1) + count ≡ from + suc count = omega arith in
        ap (λ first. aggregate_from (inv.Sort sort) first (map texts (range_with_len (from + 1) count)))
        (sort-joins (merged_of cmp sort.args.unique texts from) (texts from)
        ∙ ap (λ front. text_of_lines (merged cmp sort.args.unique front (lines (texts from)))) (lines-text_of_lines (merged_all cmp sort.args.unique port_lines from) (are-all from))
        ∙ ap (merged_of cmp sort.args.unique texts) next)
        ∙ aggregate-merged (from + 1) count ∙ ap (merged_of cmp sort.args.unique texts) all

    pub merges-joined : (ins : ℕ) → 2 ≤ ins → merged_of cmp sort.args.unique texts ins ≡ aggregate_of (inv.Sort sort) (texts_at ins texts)
    merges-joined zero some = absurd (omega arith)
    merges-joined (suc zero) some = absurd (omega arith)
    merges-joined (suc (suc ins)) some =
        let all : 2 + ins ≡ suc (suc ins) = omega arith in
        ap (merged_of cmp sort.args.unique texts) (sym all) ∙ sym (aggregate-merged 2 ins)
        ∙ sym (ap (λ first. aggregate_from (inv.Sort sort) first (map texts (range_with_len ((0 + 1) + 1) ins))) (sort-joins (texts 0) (texts (0 + 1))))

-- all of it is due at the beginning
pub gathered-given : (due : List ℕ → List ℕ) (aggregate : List ℕ) (close within : Bool) (texts : ℕ → List ℕ) (at ins port : ℕ) (waiting : List ℕ) → 2 ≤ ins
    → at ≡ 0 → waiting ≡ [] → within ≡ false → due (joined_by close false texts 0 ins) ≡ aggregate
    → gathered_on waiting due close within texts at ins port ≡ get_or (aggregate ∷ []) port []
gathered-given due aggregate close within texts at ins port waiting some first none whole is =
    let all : ins - 0 ≡ ins = omega arith in
    (λ i. gathered_on (none i) due close (whole i) texts (first i) ins port)
    ∙ ap (λ (text : List ℕ). if port == 0 then text else [])
    (ap (λ (open_in : Bool). if open_in then due (joined_by close false texts 0 (ins - 0)) else []) (lt-ltb 0 ins (omega (arith, some)))
    ∙ ap (λ (count : ℕ). due (joined_by close false texts 0 count)) all ∙ is)
    ∙ sym (get_or-one aggregate port)

-- a machine that gathers stands at the beginning of an aggregate
pub gathered-begins : (inv : Inv) (ins own : ℕ) (act : Act) (due : List ℕ → List ℕ) (close within putting broken : Bool) (at : ℕ) (waiting : List ℕ) → 2 ≤ ins
    → own ≡ ins → at ≡ 0 → waiting ≡ [] → within ≡ false → putting ≡ true → broken ≡ false
    → ((texts : ℕ → List ℕ) → due (joined_by close false texts 0 ins) ≡ aggregate_of inv (texts_at ins texts))
    → Begins (kind.Agg inv) ins 1 (record {
      act = act;
      takes = λ port. nat_le at port && nat_lt port own;
      puts = λ port. if port == 0 then putting else false;
      numbered_ins = λ port. false;
      numbered_outs = λ port. false;
      broken = broken;
      due = λ texts port. gathered_on waiting due close within texts at own port;
      selects = λ texts. false;
    })
gathered-begins inv ins own act due close within putting broken at waiting some same first none whole is_putting is_whole joined = record {
  takes_all = λ port.
      ap (λ (test : Bool). test && nat_lt port own) (ap (λ (at : ℕ). nat_le at port) first ∙ le-leb 0 port (omega arith)) ∙ ap (λ (ins : ℕ). nat_lt port ins) same;
  puts_all = λ port. ap (λ (putting : Bool). if port == 0 then putting else false) is_putting ∙ first-port port;
  plain_ins = λ port. refl;
  plain_outs = λ port. refl;
  is_whole = is_whole;
  owes = λ texts port.
      ap (λ (ins : ℕ). gathered_on waiting due close within texts at ins port) same
      ∙ gathered-given due (aggregate_of inv (texts_at ins texts)) close within texts at ins port waiting some first none whole (joined texts);
  may_select = λ texts. refl;
}
  where
    first-port : (port : ℕ) → (if port == 0 then true else false) ≡ nat_lt port 1
    first-port zero = sym (lt-ltb 0 1 (omega arith))
    first-port (suc port) = ap (λ (here : Bool). if here then true else false) (eqb-suc-zero port) ∙ sym (le-ltb (suc port) 1 (omega arith))

-- and so does one that merges
pub merge-begins : (inv : Inv) (ins : ℕ) (act : Act) (owes : (ℕ → List ℕ) → List ℕ) (opens : List Bool) (putting broken : Bool) (waiting : List ℕ)
    → waiting ≡ [] → ((port : ℕ) → get_or opens port false ≡ nat_lt port ins) → putting ≡ true → broken ≡ false
    → ((texts : ℕ → List ℕ) → owes texts ≡ aggregate_of inv (texts_at ins texts))
    → Begins (kind.Agg inv) ins 1 (record {
      act = act;
      takes = λ port. get_or opens port false;
      puts = only_port putting;
      numbered_ins = λ port. false;
      numbered_outs = λ port. false;
      broken = broken;
      due = due_at_ports waiting owes;
      selects = λ texts. false;
    })
merge-begins inv ins act owes opens putting broken waiting none are_open is_putting is_whole joined = record {
  takes_all = are_open;
  puts_all = λ port. ap (λ (putting : Bool). only_port putting port) is_putting ∙ first-port port;
  plain_ins = λ port. refl;
  plain_outs = λ port. refl;
  is_whole = is_whole;
  owes = λ texts port.
      ap (λ (waiting : List ℕ). due_at_ports waiting owes texts port) none ∙ ap (λ (text : List ℕ). if port == 0 then text else []) (joined texts)
      ∙ sym (get_or-one (aggregate_of inv (texts_at ins texts)) port);
  may_select = λ texts. refl;
}
  where
    first-port : (port : ℕ) → (port == 0) ≡ nat_lt port 1
    first-port zero = sym (lt-ltb 0 1 (omega arith))
    first-port (suc port) = eqb-suc-zero port ∙ sym (le-ltb (suc port) 1 (omega arith))
