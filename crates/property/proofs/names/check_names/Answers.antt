use Rattle.std.proofs.Common.{rules}
use Rattle.property.proofs.Listed.{good-listing, listing-good, listing-is}
use Rattle.property.proofs.names.check_names.Goals as goal

pub returns-then-is_good : goal.returns-then-is_good
returns-then-is_good c =
    record {
      value = search rules;
      meaning = (good-listing _ _, λ ns l. (listing-good _ _ ns l, listing-is _ _ ns l));
    }

pub returns-else-is_good : goal.returns-else-is_good
returns-else-is_good c =
    record {
      value = search rules;
      meaning = (good-listing _ _, λ ns l. (listing-good _ _ ns l, listing-is _ _ ns l));
    }
