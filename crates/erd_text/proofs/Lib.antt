pub mod Common
pub mod OneByOne  -- lists that are made entry by entry
pub mod RisingLists
pub mod RisingOrders
pub mod StableRising
pub mod WholeValues
pub mod WrittenTokens
pub mod LabelTokens
mod Examples  -- worked examples
