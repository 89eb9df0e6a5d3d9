use Rattle.std.proofs.Common.{[], ◌∷◌, ◌++◌, ap, ◌∙◌, arith}
use Rattle.sh_pattern.proofs.ReadingLemmas.{begin_list, rest_of_list, rest_of_items, more_items, list_ended}
use Rattle.sh_pattern.proofs.brackets.read_list.Goals as goal

pub loop-item-init : goal.loop-item-init
loop-item-init c = record {
  read = begin_list (c.in_ok-push.ensures.items ∙ ap (λ items. items ++ c.in-Some.first ∷ []) c.requires.empty) c.in-Some.ensures.item;
  back = λ items after h. rest_of_list c.in-Some.ensures.item h;
  shorter = omega (arith, c.in-Some.ensures.shorter);
}

pub loop-item-preserved : goal.loop-item-preserved
loop-item-preserved c =
    let kept = c.loop-item.invariant in
    let next = c.in-Some-next_item.ensures in
    record {
      read = more_items c.loop-item.items.items kept.read c.in_ok-push-2.ensures.items next.item;
      back = λ items after h. rest_of_items next.item (kept.back items after h).1;
      shorter = omega (arith, next.shorter);
    }

pub returns-clause-list : goal.returns-clause-list
returns-clause-list c = list_ended c.loop-item.items.items _ c.loop-item.invariant.read c.loop-item.invariant.back c.in_default-next_item.ensures.item c.past.ensures.past
