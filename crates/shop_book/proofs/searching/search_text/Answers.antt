use Rattle.lowfare.proofs.SearchMakes.{right_refused}
use Rattle.shop_book.proofs.SearchReplies.{large_search, refused_search, told_search}
use Rattle.shop_book.proofs.searching.search_text.Goals as goal

-- the request is refused
pub returns-in-Err-Refused : goal.returns-in-Err-Refused
returns-in-Err-Refused c =
    refused_search c.args.book.now c.args.best c.args.budget c.args.request.now c.refused.result c.in-Err-Refused.field-0 c.in-Err-Refused.refusal
    c.in-Err-Refused.ensures.request c.in-Err-Refused.field-0-is c.refused.ensures.status c.refused.ensures.text

-- it was searched
pub returns-in-Ok-search : goal.returns-in-Ok-search
returns-in-Ok-search c =
    told_search c.args.book.now c.args.best c.args.budget c.args.request.now c.told.result c.in-Ok.asked c.in-Ok.ensures.request c.in-Ok-search.ensures.fits.small c.told.ensures.status c.told.ensures.text

-- it is beyond the budget
pub returns-in-Err-TooLarge : goal.returns-in-Err-TooLarge
returns-in-Err-TooLarge c =
    large_search c.args.book.now c.args.best c.args.budget c.args.request.now c.too_large.result c.in-Ok.asked c.in-Ok.ensures.request
    c.in-Err-TooLarge.field-0 c.in-Err-TooLarge.ensures.cause c.in-Err-TooLarge.field-0-is c.too_large.ensures.status c.too_large.ensures.text

-- a search finds no reason to refuse it
pub unreachable-requires : goal.unreachable-requires
unreachable-requires c =
    right_refused c.args.book.now c.in-Ok.asked c.args.budget c.in-Err-BadRequest.field-0 c.in-Err-BadRequest.field-0-0 c.in-Ok.ensures.right c.in-Err-BadRequest.ensures.cause c.in-Err-BadRequest.field-0-is
